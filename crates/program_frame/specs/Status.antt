-- The status of a program that gives no answer.
use Rattle.std.specs.Prelude.{ℕ}
use Rattle.program_frame.specs.declared.failure.Failure.{Failure}
use Rattle.program_frame.specs.declared.failure.Failure.TheVariants.{BadData, File, Incomplete, NoMemory, NoWords, Unwritten, Words}

abbrev pub status_of : Failure → ℕ
status_of (BadData text) = 1
status_of (Words e) = 2
status_of (NoWords e) = 2
status_of (NoMemory e) = 3
status_of (File name e) = 3
status_of (Unwritten e) = 3
status_of (Incomplete text) = 4
