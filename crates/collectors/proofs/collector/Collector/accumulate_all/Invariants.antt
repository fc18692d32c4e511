use Rattle.std.proofs.Common.{◌≡◌, map, take, fold}
use Rattle.collectors.proofs.collector.Collector.accumulate_all.Given as goal

abbrev pub invariant-loop-item : goal.invariant-loop-item
invariant-loop-item g l =
    g.Self.Collector.content l.self l.acc
    ≡ fold (g.Self.Collector.add l.self) (g.Self.Collector.content l.self l.fn.acc) (map g.Self.Item.Value.content (take l.item-index l.items))
