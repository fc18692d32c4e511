-- How what is kept of the leaves is put together.
use Rattle.std.specs.Prelude.{◌≡◌, ◌<◌, ◌≤◌, ◌+◌, ◌≢◌, ◌⊎◌, ℕ, zero, suc, List, [], ◌∷◌, Option, Some, None, length, take, slice_index_or, slice_set}
use Rattle.barriers.specs.Needs.{Reaches}
use Rattle.leaf_board.specs.Case.{IsLawful, sum_below}
use Rattle.split_tree.specs.declared.tree.Tree.{Tree}
use Rattle.split_tree.specs.SplitTree.{leaf_numbers, numbers_from}
use Rattle.stealing_pool.specs.Jobs.{Work}
use Rattle.leaf_reading.specs.Fronts.{IsWithin}
use Rattle.leaf_reading.specs.declared.leaf_end.Portion.{Portion}
use Rattle.stealing_pool.specs.declared.worker.Ran.{Ran}
use Rattle.stealing_pool.specs.declared.worker.Shift.{Shift}

-- what is kept of each leaf put in its place
abbrev pub put_in : {A : Type 0} → List (Option (Portion A)) → List (Ran A) → List (Option (Portion A))
put_in places [] = places
put_in places (r ∷ rs) = put_in (slice_set places r.leaf (Some r.portion)) rs

-- what all workers kept put in its places
abbrev pub place_shifts : {S A : Type 0} → List (Option (Portion A)) → List (Shift S A) → List (Option (Portion A))
place_shifts places [] = places
place_shifts places (s ∷ ss) = place_shifts (put_in places s.ran.items) ss

-- what stands in a place is lawful for its leaf
abbrev pub HoldsLeaf : {A : Type 0} → Work A → ℕ → Option (Portion A) → Type 0
HoldsLeaf work i None = Unit {0}
HoldsLeaf work i (Some p) = work.Keeps i (i + 1) p.count p.kept × IsLawful work.needed (work.full i) p.count × IsWithin work.needed p.count

abbrev pub HoldsLeaves : {A : Type 0} → Work A → List (Option (Portion A)) → Type 0
HoldsLeaves work places = (i : ℕ) (d : Option (Portion _)) → i < work.leaves → HoldsLeaf work i (slice_index_or places i d)

-- each place is filled, or leaves left of it are enough
abbrev pub HasLeaves : {A : Type 0} → Work A → List (Option (Portion A)) → Type 0
HasLeaves work places =
    (i : ℕ) (d : Option (Portion _)) → i < work.leaves → (slice_index_or places i d ≢ None) ⊎ ((c : ℕ) × (c < i) × Reaches work.needed (sum_below work.full (c + 1)))

-- the leaves of the tree are numbered one after another
abbrev pub IsNumbered : Tree → Type 0
IsNumbered tree = (first : ℕ) × (leaf_numbers tree ≡ numbers_from first (length (leaf_numbers tree)))

-- the sum of the counts of so many leaves from one number on
abbrev pub sum_from : (ℕ → ℕ) → ℕ → ℕ → ℕ
sum_from count first zero = 0
sum_from count first (suc m) = count first + sum_from count (first + 1) m

-- what is kept of the leaves from one number on, one after another, with their counts
abbrev pub AreKept : {A : Type 0} → Work A → (ℕ → ℕ) → ℕ → List A → Type 0
AreKept work count first [] = Unit {0}
AreKept work count first (kept ∷ row) = work.Keeps first (first + 1) (count first) kept × AreKept work count (first + 1) row

-- so many leaves from one number on are not enough without the last
abbrev pub AreWanted : Option ℕ → (ℕ → ℕ) → ℕ → ℕ → Type 0
AreWanted needed count first m = (j : ℕ) → 0 < j → j < m → Reaches needed (sum_from count first j) → ⊥

-- what is kept of the first leaves: of all, or of as many as are enough, and of no more than these
pub record IsRow {A : Type 0} (work : Work A) (row : List A) : Type 0 where
  pub count : ℕ → ℕ
  pub each : AreKept work count 0 row
  pub some : 0 < length row
  pub few : length row ≤ work.leaves
  pub wanted : AreWanted work.needed count 0 (length row)
  pub end : (length row ≡ work.leaves) ⊎ Reaches work.needed (sum_from count 0 (length row))

-- it stands for the first leaves of a row, at most so many, wherever the row begins
abbrev pub StandsForPart : {A : Type 0} → Work A → ℕ → List A → A → Type 0
StandsForPart work leaves row kept =
    (first : ℕ) (count : ℕ → ℕ) → AreKept work count first row → AreWanted work.needed count first (length row)
    → work.Keeps first (first + length (take leaves row)) (sum_from count first (length (take leaves row))) kept
