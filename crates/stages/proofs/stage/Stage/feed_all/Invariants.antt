use Rattle.std.proofs.Common.{map, ◌≡◌, ◌++◌, flat_map}
use Rattle.std.specs.Vec.Iter.{drain_items}
use Rattle.stages.proofs.stage.Stage.feed_all.Given as goal

abbrev pub invariant-loop-item : goal.invariant-loop-item
invariant-loop-item g l =
    (goal.iterator-loop-item g).can_next l.item-iterator ×
    (goal.iterator-loop-item g).is_finite l.item-iterator
    × g.K.Sink.ready l.sink
    × g.K.Sink.takes l.fn.sink (flat_map (g.Self.Stage.expand l.self) (map g.Self.In.Value.content l.yielded)) l.sink
    × (l.fn.items.items ≡ l.yielded ++ drain_items l.item-iterator)
