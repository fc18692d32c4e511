-- What a run's record says of the leaves.
use Rattle.std.specs.Prelude.{◌≡◌, ◌<◌, ◌≤◌, ◌+◌, ◌⊎◌, ℕ, Option, Some, None}
use Rattle.barriers.specs.Needs.{Reaches}
use Rattle.leaf_board.specs.Case.{IsLawful, sum_below}

-- the leaf has a lawful count, or it has none and lies right of the cut
abbrev pub Reported : Option ℕ → ℕ → ℕ → Option ℕ → Option ℕ → Type 0
Reported needed full i count cut = ((n : ℕ) × (count ≡ Some n) × IsLawful needed full n) ⊎ ((count ≡ None) × ((c : ℕ) × (cut ≡ Some c) × (c < i)))

pub record Reports (needed : Option ℕ) (leaves : ℕ) (full : ℕ → ℕ) (recorded : ℕ) (count : ℕ → Option ℕ) (cut : Option ℕ) : Type 0 where
  pub all : recorded ≡ leaves
  pub each : (i : ℕ) → i < leaves → Reported needed (full i) i (count i) cut
  -- the leaves up to the cut are enough
  pub justified : (c : ℕ) → cut ≡ Some c → (c < leaves) × Reaches needed (sum_below full (c + 1))
  -- where a leaf's count is enough by itself, the cut is there or left of it
  pub cut_found : (i n : ℕ) → i < leaves → count i ≡ Some n → Reaches needed n → (c : ℕ) × (cut ≡ Some c) × (c ≤ i)
