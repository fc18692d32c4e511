use Rattle.std.proofs.Common.{◌≤◌, ◌++◌, List, map, take, length}
use Rattle.collectors.specs.Laws.{IsContainerOf}
use Rattle.collectors.proofs.container.accumulate_items.Given as goal

abbrev pub invariant-loop-x : goal.invariant-loop-x
invariant-loop-x g l =
    let c = g.C.Collector in
    let made = IsContainerOf g.C.Item.Value.is_value (c.content l.collector) (c.empty l.collector) (c.add l.collector) in
    (l.x-index ≤ length l.items)
    × ((front : List _) → made front l.fn.acc → made (front ++ map g.C.Item.Value.content (take l.x-index l.items)) l.acc)
