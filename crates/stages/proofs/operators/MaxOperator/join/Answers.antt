use Rattle.std.proofs.Common.{◌≡◌, ◌∙◌, rules}
use Rattle.spliterator.specs.Clones.{clones-tested}
use Rattle.stages.specs.Choices.{larger}
use Rattle.stages.proofs.operators.MaxOperator.join.Goals as goal

pub returns : goal.returns
returns g c =
    let content = g.T.Value.content in
    let alike = clones-tested g.T.Value.same g.met.T.Value.same_decides g.T.Clone.is_clone content c.args.self.now.clones_alike in
    let ordered = g.met.T.SortedValue.cmp_is_order c.args.a.now c.args.b.now in
    let chosen = larger g.T.OrderedValue.order (content c.args.a.now) (content c.args.b.now) in
    let is_larger : content c.match-cmp.larger.now ≡ chosen = search rules fits 200 depth 4 in
    alike c.match-cmp.larger.now c.in_ok-clone.field-0 c.in_ok-clone.ensures.cases ∙ is_larger
