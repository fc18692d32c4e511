use Rattle.std.proofs.Common.{◌<◌, ◌≤◌, length}
use Rattle.std.specs.Prelude.{flat_map}
use Rattle.leaf_reading.specs.Stretches.{TakesOn}
use Rattle.leaf_reading.proofs.stretch.feed_front.Given as goal

abbrev pub invariant-reading : goal.invariant-reading
invariant-reading g l =
    (0 < l.number) × (l.number ≤ 4096)
    × g.K.Sink.ready l.sink
    × TakesOn g.K.Sink.takes (flat_map (g.G.Stage.expand l.stage)) (g.S.Spliterator.items l.fn.source) l.fn.sink (g.S.Spliterator.items l.source) l.sink

abbrev pub decreases-reading : goal.decreases-reading
decreases-reading g l = length (g.S.Spliterator.items l.source)
