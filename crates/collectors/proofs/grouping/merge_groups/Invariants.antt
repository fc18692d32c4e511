use Rattle.std.proofs.Common.{◌≡◌}
use Rattle.collectors.specs.Grouping.{group_merge, contents}
use Rattle.collectors.proofs.grouping.merge_groups.Given as goal

abbrev pub invariant-loop-group : goal.invariant-loop-group
invariant-loop-group g l =
    let seen = contents g.K.Value.content (g.D.Collector.content l.downstream) in
    let merged = group_merge g.K.Value.same (g.D.Collector.merge l.downstream) in
    merged (seen l.left.entries) (seen l.group-iterator) ≡ merged (seen l.fn.left.entries) (seen l.fn.right.entries)
