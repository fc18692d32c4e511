-- A seat's knowledge, as a pool sees it.
use Rattle.std.specs.Prelude.{◌≡◌, ◌≤◌, ◌+◌, Contains, slice_index, ℕ, List, [], ◌∷◌}
use Rattle.leaf_board.specs.Statuses.{Status, Unknown}
use Rattle.atomic_table.specs.Seated.{TableId}
use Rattle.leaf_board.specs.Case.{BoardCase}
use Rattle.leaf_board.specs.Seats.{Holder}
use Rattle.leaf_board.specs.Knowledge.{IsDrained, status_of}

abbrev pub is_unknown : Status → ℕ
is_unknown Unknown = 1
is_unknown _ = 0

-- how many leaves weren't given to the seat
abbrev pub unknown_count : List Status → ℕ
unknown_count [] = 0
unknown_count (s ∷ ss) = is_unknown s + unknown_count ss

-- a seat of this board
abbrev pub IsOn : TableId → Holder → Type 0
IsOn board s = s.board ≡ board

abbrev pub number_of : Holder → ℕ
number_of s = s.number

abbrev pub status_at : Holder → ℕ → Status
status_at s leaf = status_of s.knows leaf

abbrev pub least_cut : Holder → ℕ
least_cut s = s.knows.least

-- it was told that all leaves were given out
abbrev pub WasDrained : BoardCase → Holder → Type 0
WasDrained c s = IsDrained c s.knows

abbrev pub leaves_left : Holder → ℕ
leaves_left s = unknown_count s.knows.leaves

-- the seat knows this count of the leaf
abbrev pub KnowsCount : Holder → ℕ → ℕ → Type 0
KnowsCount s leaf count = slice_index s.knows.counts leaf ≡ count + 1

-- it cut at this leaf or left of it
abbrev pub MadeCut : Holder → ℕ → Type 0
MadeCut s leaf = (cut : ℕ) × (cut ≤ leaf) × Contains s.knows.cuts cut
