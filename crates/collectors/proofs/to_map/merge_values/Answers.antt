use Rattle.std.proofs.Common.{◌∙◌, ◌≡◌, [], ◌∷◌, sym, ap}
use Rattle.collectors.specs.Grouping.{group_merge, contents}
use Rattle.collectors.proofs.to_map.merge_values.Goals as goal

pub loop-entry-preserved : goal.loop-entry-preserved
loop-entry-preserved g c =
    let seen = contents g.K.Value.content g.U.Value.content in
    let merged = group_merge g.K.Value.same (g.M.Operator.join c.args.merge.now) in
    let taken : c.loop-entry.entry-iterator ≡ c.in-Some.entry ∷ c.next.new.self = c.in-Some.ensures.steps in
    ap (λ ls. merged ls (seen c.next.new.self)) c.in_ok-merge_value.ensures
    ∙ ap (λ es. merged (seen c.loop-entry.left.entries) (seen es)) (sym taken)
    ∙ c.loop-entry.invariant

pub returns : goal.returns
returns g c =
    let seen = contents g.K.Value.content g.U.Value.content in
    let merged = group_merge g.K.Value.same (g.M.Operator.join c.args.merge.now) in
    let ended : c.loop-entry.entry-iterator ≡ [] = c.in-None.ensures.steps.0 in
    sym (ap (λ es. merged (seen c.loop-entry.left.entries) (seen es)) ended) ∙ c.loop-entry.invariant
