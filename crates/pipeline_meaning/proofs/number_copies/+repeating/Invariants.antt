use Rattle.std.proofs.Common.{◌+◌, ◌*◌, flat_map, length, take}
use Rattle.std.proofs.Math.ListN.{replicate}
use Rattle.pipeline_meaning.specs.NumberSteps.{steps_images}
use Rattle.pipeline_meaning.proofs.number_copies.+repeating.Given as goal

abbrev pub decreases-feed_steps : goal.decreases-feed_steps
decreases-feed_steps g l = 4 * length l.steps.now

abbrev pub decreases-feed_each : goal.decreases-feed_each
decreases-feed_each g l = 4 * length l.later.now + 3

abbrev pub decreases-feed_few : goal.decreases-feed_few
decreases-feed_few g l = 4 * length l.later.now + 1

abbrev pub decreases-feed_many : goal.decreases-feed_many
decreases-feed_many g l = 4 * length l.later.now + 1

abbrev pub invariant-feed_each-loop-x : goal.invariant-feed_each-loop-x
invariant-feed_each-loop-x g l =
    g.K.Sink.ready l.sink × g.K.Sink.takes l.fn.sink (flat_map (steps_images l.later) (flat_map (replicate l.number) (take l.x-index l.items))) l.sink

abbrev pub invariant-feed_few-copying : goal.invariant-feed_few-copying
invariant-feed_few-copying g l =
    g.K.Sink.ready l.sink
    × ((end : _) → g.K.Sink.spoils l.sink end → g.K.Sink.spoils l.fn.sink end)
    × ((end : _) → g.K.Sink.takes l.sink (flat_map (steps_images l.later) (flat_map (replicate l.number) l.left)) end
    → g.K.Sink.takes l.fn.sink (flat_map (steps_images l.later) (flat_map (replicate l.number) l.items)) end)

abbrev pub decreases-feed_few-copying : goal.decreases-feed_few-copying
decreases-feed_few-copying g l = length l.left

abbrev pub invariant-feed_many-copying : goal.invariant-feed_many-copying
invariant-feed_many-copying g l =
    g.K.Sink.ready l.sink
    × ((end : _) → g.K.Sink.spoils l.sink end → g.K.Sink.spoils l.fn.sink end)
    × ((end : _) → g.K.Sink.takes l.sink (flat_map (steps_images l.later) (replicate l.left l.x)) end
    → g.K.Sink.takes l.fn.sink (flat_map (steps_images l.later) (replicate l.number l.x)) end)

abbrev pub decreases-feed_many-copying : goal.decreases-feed_many-copying
decreases-feed_many-copying g l = l.left
