use Rattle.std.proofs.Common.{fold}
use Rattle.collectors.proofs.Finished.{IsFinished}
use Rattle.collectors.proofs.grouping.finish_groups.Given as goal

-- the groups that were taken, with those that are left, are all, and each that was taken has its result
abbrev pub invariant-loop-group : goal.invariant-loop-group
invariant-loop-group g l =
    let d = l.downstream in
    IsFinished g.D.Item.Value.is_value (fold (g.D.Collector.add d) (g.D.Collector.empty d)) (g.D.Collector.content d) (g.D.Collector.gives d) l.fn.groups.entries l.group-iterator l.results.entries
