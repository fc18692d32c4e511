use Rattle.std.proofs.Common.{map, ◌≡◌, ◌++◌, fold}
use Rattle.std.specs.Result.{result_map_both}
use Rattle.std.specs.Vec.Iter.{drain_items}
use Rattle.derived_collectors.specs.Tried.{try_add}
use Rattle.derived_collectors.proofs.trying.TryingCollector.accumulate_all_owned.Given as goal

abbrev pub invariant-loop-item : goal.invariant-loop-item
invariant-loop-item g l =
    (goal.iterator-loop-item g).can_next l.item-iterator
    × (goal.iterator-loop-item g).is_finite l.item-iterator
    × (result_map_both (g.D.Collector.content l.self.downstream) g.E.Value.content l.acc
    ≡ fold (try_add (g.D.Collector.add l.self.downstream)) (result_map_both (g.D.Collector.content l.self.downstream) g.E.Value.content l.fn.acc)
    (map (result_map_both g.D.Item.Value.content g.E.Value.content) l.yielded))
    × (l.fn.items.items ≡ l.yielded ++ drain_items l.item-iterator)
