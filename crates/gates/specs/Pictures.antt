-- How a report is written.
use Rattle.std.specs.Prelude.{ℕ, zero, suc, ◌+◌, ◌-◌, Bool, true, not, ◌&&◌, List, [], ◌∷◌, ◌++◌, Option, None, Some, is_some, min, max, if◌then◌else◌, nat_lt, nat_le, ◌==◌, codes}
use Rattle.std.specs.Int.{div_ceil}
use Rattle.std.specs.Fmt.{decimal}
use Rattle.leaf_board.specs.Closing.{Outcome, count_of, cut_of}

abbrev pub was_counted : Outcome → ℕ → Bool
was_counted run leaf = is_some (count_of run leaf)

abbrev pub was_skipped : Outcome → ℕ → Bool
was_skipped run leaf = not (was_counted run leaf)

-- whether each of so many leaves from one on is such
abbrev pub each_from : (ℕ → Bool) → ℕ → ℕ → Bool
each_from such leaf zero = true
each_from such leaf (suc more) = such leaf && each_from such (leaf + 1) more

-- of the leaves from one up to another: `#` if each was counted, `.` if each was skipped, and else `+`
abbrev pub mark : Outcome → ℕ → ℕ → List ℕ
mark run begin end =
    if each_from (was_counted run) begin (end - begin) then codes "#" else (if each_from (was_skipped run) begin (end - begin) then codes "." else codes "+")

-- `|`, if the cut is one of the leaves from one up to another
abbrev pub bar : Option ℕ → ℕ → ℕ → List ℕ
bar None begin end = []
bar (Some cut) begin end = if nat_le begin cut && nat_lt cut end then codes "|" else []

-- a mark and what stands behind it
abbrev pub marked : Outcome → ℕ → ℕ → List ℕ
marked run begin end = mark run begin end ++ bar (cut_of run) begin end

-- so many marks from a leaf on, each of `size` leaves, or of those that are left
abbrev pub marks : Outcome → ℕ → ℕ → ℕ → List ℕ
marks run size begin zero = []
marks run size begin (suc more) = marked run begin (min (begin + size) run.leaves) ++ marks run size (begin + size) more

-- the marks of all leaves
abbrev pub row : Outcome → ℕ → List ℕ
row run size = marks run size 0 (div_ceil run.leaves size)

-- how many leaves a mark stands for: so many that 64 marks are enough
abbrev pub mark_size : ℕ → ℕ
mark_size leaves = max (div_ceil leaves 64) 1

abbrev pub leaves_word : ℕ → List ℕ
leaves_word leaves = if leaves == 1 then codes " leaf" else codes " leaves"

abbrev pub size_told : ℕ → List ℕ
size_told size = if nat_lt 1 size then codes " by " ++ decimal size else []

-- the line of a run, which has a number
abbrev pub line : ℕ → Outcome → List ℕ
line number run =
    codes "run " ++ decimal number ++ codes ", " ++ decimal run.leaves ++ leaves_word run.leaves ++ size_told (mark_size run.leaves) ++ codes ": " ++ row run (mark_size run.leaves) ++ codes "\n"

-- the lines of runs, which are numbered from one number on
abbrev pub lines : ℕ → List Outcome → List ℕ
lines number [] = []
lines number (run ∷ runs) = line number run ++ lines (number + 1) runs
