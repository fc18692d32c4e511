use Rattle.std.proofs.Common.{◌≤◌, ◌-◌, ℕ, List}
use Rattle.std.specs.Fmt.{HasWritten, IsPlainFormatter}
use Rattle.gates.specs.Pictures.{row}
use Rattle.gates.proofs.Pictures.{AreLeft}
use Rattle.gates.proofs.picture.write_marks.Given as goal

abbrev pub invariant-loop-begin : goal.invariant-loop-begin
invariant-loop-begin g l =
    (l.begin ≤ l.leaves)
    × (IsPlainFormatter l.initial.f → (done : List ℕ) × HasWritten g.W.Write.write_str_gives l.initial.f done l.f
    × AreLeft l.entry l.size l.begin done (row l.entry l.size))

abbrev pub decreases-loop-begin : goal.decreases-loop-begin
decreases-loop-begin g l = l.leaves - l.begin
