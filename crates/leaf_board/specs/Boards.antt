-- The cases of the tests.
use Rattle.std.specs.Prelude.{ℕ, ◌%◌, ◌<◌, ◌≤◌, List, length, slice_index, slice_index_or, Option, Some, None}
use Rattle.leaf_board.specs.Case.{BoardCase}
use Rattle.leaf_board.specs.Knowledge.{IsHeld}
use Rattle.leaf_board.specs.Seats.{Holder}

abbrev pub case_of : ℕ → List ℕ → Option ℕ → ℕ → BoardCase
case_of leaves full need seats = record { leaves = leaves; full = slice_index full; need = need; seats = seats }

-- the largest board: leaf i has i % 8 counting items
abbrev pub largest : Option ℕ → BoardCase
largest need = record { leaves = 65536; full = λ i. i % 8; need = need; seats = 64 }

-- the seat holds the pass that it has in hand
abbrev pub Holds : ℕ → Holder → Option ℕ → Type 0
Holds leaves s None = Unit {0}
Holds leaves s (Some pass) = IsHeld s.knows pass × (pass < leaves)

abbrev pub AllHold : ℕ → List Holder → List (Option ℕ) → Type 0
AllHold leaves seats hands = (length hands ≤ length seats) × ((w : ℕ) (d : Holder) → w < length hands → Holds leaves (slice_index_or seats w d) (slice_index_or hands w None))
