use Rattle.std.proofs.Common.{map, ◌≡◌, ◌++◌}
use Rattle.std.specs.Vec.Iter.{drain_items}
use Rattle.stages.proofs.sink.Sink.take_all.Given as goal

abbrev pub invariant-loop-item : goal.invariant-loop-item
invariant-loop-item g l =
    (goal.iterator-loop-item g).can_next l.item-iterator ×
    (goal.iterator-loop-item g).is_finite l.item-iterator
    × g.Self.Sink.ready l.self
    × g.Self.Sink.takes l.fn.self (map g.T.Value.content l.yielded) l.self
    × (l.fn.items.items ≡ l.yielded ++ drain_items l.item-iterator)
