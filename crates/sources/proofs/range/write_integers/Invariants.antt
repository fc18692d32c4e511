use Rattle.std.proofs.Common.{◌≡◌, ◌<◌, take, length, pos, ◌+ℤ◌}
use Rattle.sources.specs.Integers.{integers}
use Rattle.sources.proofs.range.write_integers.Given as goal

abbrev pub invariant-loop-x : goal.invariant-loop-x
invariant-loop-x l =
    (take l.x-index l.room ≡ integers l.first l.x-index)
    × (l.x-index < length l.room → l.number ≡ l.first +ℤ pos l.x-index)
