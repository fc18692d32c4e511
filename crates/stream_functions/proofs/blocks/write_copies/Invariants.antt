use Rattle.std.proofs.Common.{◌-◌, ◌≡◌, ◌≤◌, ◌+◌, ◌*◌, ◌++◌, flat_map, take}
use Rattle.std.specs.Prelude.{◌<◌}
use Rattle.std.proofs.Math.ListN.{replicate}
use Rattle.stream_functions.proofs.blocks.write_copies.Given as goal

abbrev pub invariant-loop-place : goal.invariant-loop-place
invariant-loop-place l =
    (l.end ≡ l.number * l.x-index + l.number)
    × (l.number * l.x-index ≤ l.place)
    × (l.place < l.end + 4)
    × (take l.place l.room ≡ flat_map (replicate l.number) (take l.x-index l.items) ++ replicate (l.place - l.number * l.x-index) l.x)

abbrev pub decreases-loop-place : goal.decreases-loop-place
decreases-loop-place l = l.end - l.place

abbrev pub invariant-loop-x : goal.invariant-loop-x
invariant-loop-x l =
    (l.end ≡ l.number * l.x-index)
    × (take l.end l.room ≡ flat_map (replicate l.number) (take l.x-index l.items))
