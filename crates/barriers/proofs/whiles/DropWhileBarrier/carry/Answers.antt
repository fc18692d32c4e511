use Rattle.std.proofs.Common.{◌++◌, map, ap, ◌∙◌, sym}
use Rattle.std.proofs.lemmas.List.{length-map}
use Rattle.barriers.specs.Whiles.{left_while}
use Rattle.barriers.proofs.GoesOn.{left-dropping}
use Rattle.barriers.proofs.whiles.DropWhileBarrier.carry.Goals as goal

pub returns-clause-goes_on : goal.returns-clause-goes_on
returns-clause-goes_on g c = λ more.
    let p = g.P.Test.holds c.args.self.now.test in
    let content = g.T.Value.content in
    let kept = c.in_ok-kept.kept in
    left-dropping p c.args.state.now (map content c.args.items.items) (map content kept.items) more kept.len c.if-not-state.false c.in_ok-kept.ensures.value
    (kept.ok.0 ∙ sym (length-map kept.items content))
    ∙ ap (λ b. map content kept.items ++ left_while b p more) (sym c.is_empty.ensures)
