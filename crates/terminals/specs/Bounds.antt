-- Items that stand behind the first ones of a sorted list.
use Rattle.std.specs.Prelude.{◌≡◌, ◌≤◌, ℕ, suc, Bool, false, All, List, Some, length, slice_get, take}

module _ {X : Type 0} (below : X → X → Bool) where
  -- there are so many first members, and x is below none of them
  abbrev pub IsBehind : ℕ → X → List X → Type 0
  IsBehind number x l = (number ≤ length l) × All (λ y. below x y ≡ false) (take number l)

  -- There are so many first members, and what isn't below the last of them is below none of them.
  abbrev pub IsBounded : ℕ → List X → Type 0
  IsBounded number l = (number ≤ length l)
      × ((last : ℕ) → suc last ≡ number → (y : X) → slice_get l last ≡ Some y → (x : X) → below x y ≡ false → IsBehind number x l)
