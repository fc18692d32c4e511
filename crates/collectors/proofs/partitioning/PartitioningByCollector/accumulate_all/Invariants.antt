use Rattle.std.proofs.Common.{◌≡◌, fold, map, take}
use Rattle.collectors.specs.NestedLaws.{add_parted}
use Rattle.collectors.proofs.partitioning.PartitioningByCollector.accumulate_all.Given as goal

abbrev pub invariant-loop-item : goal.invariant-loop-item
invariant-loop-item g l =
    let d = l.self.downstream in
    let side = g.D.Collector.content d in
    let add = add_parted (g.P.Test.holds l.self.test) (g.D.Collector.empty d) (g.D.Collector.add d) in
    (side l.acc.no, side l.acc.yes) ≡ fold add (side l.fn.acc.no, side l.fn.acc.yes) (map g.D.Item.Value.content (take l.item-index l.items))
