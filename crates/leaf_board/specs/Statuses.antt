-- What a seat knows of a leaf.
use Rattle.std.specs.Prelude.{◌≡◌, ◌<◌, ◌≤◌, ℕ, ◌≢◌, Result, Ok, Err, List, length, slice_index_or}
use Rattle.leaf_board.specs.declared.handout.Draw.{Draw}
use Rattle.leaf_board.specs.declared.handout.Draw.TheVariants.{Leaf, Drained}

pub data Status : Type 0 where
  Unknown : Status
  Given : Status
  Published : ℕ → Status
  Skipped : Status

-- the status of one leaf becomes another, and the others stay
pub record Turns (before : ℕ → Status) (i : ℕ) (s : Status) (after : ℕ → Status) : Type 0 where
  pub here : after i ≡ s
  pub others : (j : ℕ) → j ≢ i → after j ≡ before j

abbrev pub SameFrom : (ℕ → Status) → (ℕ → Status) → Type 0
SameFrom before after = (j : ℕ) → after j ≡ before j

-- a draw gives a leaf that the seat wasn't given before, or tells that all are given out
abbrev pub Draws : {P : Type 0} → ℕ → (P → ℕ) → (ℕ → Status) → ℕ → Draw P → (ℕ → Status) → ℕ → Type 0 → Type 0
Draws n leaf_of before left (Leaf p) after left' told = (leaf_of p < n) × (before (leaf_of p) ≡ Unknown) × Turns before (leaf_of p) Given after × (left' < left)
Draws n leaf_of before left Drained after left' told = SameFrom before after × told

-- the leaf is skipped where a cut left of it is known; else nothing changes and the pass comes back
abbrev pub SkipsLeaf : {P : Type 0} → (ℕ → Status) → ℕ → ℕ → Result (Unit {0}) P → (P → ℕ) → (ℕ → Status) → Type 0
SkipsLeaf before i cut (Ok u) leaf_of after = (cut < i) × Turns before i Skipped after
SkipsLeaf before i cut (Err p) leaf_of after = (i ≤ cut) × (leaf_of p ≡ i) × SameFrom before after

-- the seat is still one of the board, with its number and its cuts, and may draw as much as before
pub record StaysSeat {S : Type 0} (Is : S → Type 0) (number left : S → ℕ) (Cuts : S → ℕ → Type 0) (before after : S) : Type 0 where
  pub of : Is after
  pub numbered : number after ≡ number before
  pub draws : left after ≡ left before
  pub cuts : (i : ℕ) → Cuts before i → Cuts after i

-- the seats are all of the board's, by their numbers
pub record AreSeats {S : Type 0} (Is : S → Type 0) (number : S → ℕ) (count : ℕ) (seats : List S) : Type 0 where
  pub all : length seats ≡ count
  pub each : (k : ℕ) (d : S) → k < length seats → Is (slice_index_or seats k d) × (number (slice_index_or seats k d) ≡ k)
