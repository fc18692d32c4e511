use Rattle.std.proofs.Common.{◌≡◌, ◌≤◌, map, take}
use Rattle.std.specs.Prelude.{count_by}
use Rattle.stages.proofs.function.Test.count_meeting.Given as goal

abbrev pub invariant-loop-item : goal.invariant-loop-item
invariant-loop-item g l =
    (l.meeting ≡ count_by (g.Self.Test.holds l.self) (map g.T.Value.content (take l.item-index l.items)))
    × (l.meeting ≤ l.item-index)
