-- What a closed board tells.
use Rattle.std.specs.Prelude.{◌≡◌, ◌<◌, ◌≤◌, ◌+◌, ◌≢◌, ◌↔◌, ℕ, List, length, slice_index_or, Option, Some, None}
use Rattle.barriers.specs.Needs.{Reaches}
use Rattle.leaf_board.specs.Case.{sum_below}
use Rattle.leaf_board.specs.Statuses.{Status, Unknown, Published, Skipped}

-- one of the seats has this status of leaf i
abbrev pub Somewhere : {S : Type 0} → (S → ℕ → Status) → List S → ℕ → Status → Type 0
Somewhere status seats i s = (k : ℕ) × (k < length seats) × ((d : _) → status (slice_index_or seats k d) i ≡ s)

pub record Closes {S : Type 0} (leaves : ℕ) (full : ℕ → ℕ) (need : Option ℕ) (status : S → ℕ → Status) (drained : S → Type 0) (made_cut : S → ℕ → Type 0) (seats : List S) (recorded : ℕ) (count : ℕ → Option ℕ) (cut : Option ℕ) : Type 0 where
  pub all : recorded ≡ leaves
  -- a leaf has a count exactly where a seat published it
  pub counts : (i n : ℕ) → i < leaves → (count i ≡ Some n) ↔ Somewhere status seats i (Published n)
  -- no leaf was given to two of the seats
  pub once : (i j k : ℕ) → j < length seats → k < length seats → ((d : S) → status (slice_index_or seats j d) i ≢ Unknown) → ((d : S) → status (slice_index_or seats k d) i ≢ Unknown) → j ≡ k
  -- where one seat was told Drained, every leaf was given
  pub given : (k : ℕ) → k < length seats → ((d : S) → drained (slice_index_or seats k d)) → (i : ℕ) → i < leaves → (j : ℕ) × (j < length seats) × ((d : S) → status (slice_index_or seats j d) i ≢ Unknown)
  -- each skipped leaf lies right of the cut, and has no count
  pub skipped : (i : ℕ) → Somewhere status seats i Skipped → (c : ℕ) × (cut ≡ Some c) × (c < i) × (count i ≡ None)
  -- the cut is justified
  pub justified : (c : ℕ) → cut ≡ Some c → (c < leaves) × Reaches need (sum_below full (c + 1))
  -- the record's cut lies at or left of each that a seat made
  pub least : (k i : ℕ) → k < length seats → ((d : S) → made_cut (slice_index_or seats k d) i) → (c : ℕ) × (cut ≡ Some c) × (c ≤ i)
