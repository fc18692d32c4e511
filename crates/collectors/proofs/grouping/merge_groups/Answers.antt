use Rattle.std.proofs.Common.{◌∙◌, ◌≡◌, [], ◌∷◌, sym, ap}
use Rattle.collectors.specs.Grouping.{group_merge, contents}
use Rattle.collectors.proofs.grouping.merge_groups.Goals as goal

pub loop-group-preserved : goal.loop-group-preserved
loop-group-preserved g c =
    let seen = contents g.K.Value.content (g.D.Collector.content c.args.downstream.now) in
    let merged = group_merge g.K.Value.same (g.D.Collector.merge c.args.downstream.now) in
    let taken : c.loop-group.group-iterator ≡ c.in-Some.group ∷ c.next.new.self = c.in-Some.ensures.steps in
    ap (λ ls. merged ls (seen c.next.new.self)) c.in_ok-merge_group.ensures
    ∙ ap (λ es. merged (seen c.loop-group.left.entries) (seen es)) (sym taken)
    ∙ c.loop-group.invariant

pub returns : goal.returns
returns g c =
    let seen = contents g.K.Value.content (g.D.Collector.content c.args.downstream.now) in
    let merged = group_merge g.K.Value.same (g.D.Collector.merge c.args.downstream.now) in
    let ended : c.loop-group.group-iterator ≡ [] = c.in-None.ensures.steps.0 in
    sym (ap (λ es. merged (seen c.loop-group.left.entries) (seen es)) ended) ∙ c.loop-group.invariant
