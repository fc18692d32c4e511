use Rattle.std.proofs.Common.{◌≡◌}
use Rattle.collectors.specs.Grouping.{group_merge, contents}
use Rattle.collectors.proofs.to_map.merge_values.Given as goal

abbrev pub invariant-loop-entry : goal.invariant-loop-entry
invariant-loop-entry g l =
    let seen = contents g.K.Value.content g.U.Value.content in
    let merged = group_merge g.K.Value.same (g.M.Operator.join l.merge) in
    merged (seen l.left.entries) (seen l.entry-iterator) ≡ merged (seen l.fn.left.entries) (seen l.fn.right.entries)
