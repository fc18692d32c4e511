use Rattle.std.proofs.Common.{◌≡◌, take}
use Rattle.sources.specs.Progressions.{progression, steps_on}
use Rattle.sources.proofs.progression.write_steps.Given as goal

abbrev pub invariant-loop-x : goal.invariant-loop-x
invariant-loop-x l =
    (take l.x-index l.room ≡ progression l.first l.step l.x-index)
    × (l.number ≡ steps_on l.first l.step l.x-index)
