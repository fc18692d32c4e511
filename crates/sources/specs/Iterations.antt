-- A value, and what a function makes of it, again and again.
use Rattle.std.specs.Prelude.{◌≡◌, ℕ, zero, suc, Bool, List, [], ◌∷◌, length, if◌then◌else◌, refl}
use Rattle.std.proofs.Common.{ap}

-- n items: x, f x, f (f x), ..
-- java.util.stream.Stream, iterate and limit
abbrev pub iterates : {C : Type 0} → (C → C) → C → ℕ → List C
iterates f x zero = []
iterates f x (suc n) = x ∷ iterates f (f x) n

-- the next item: what f makes of the latest one, once there is one
abbrev pub first_of : {C : Type 0} → (C → C) → Bool → C → C
first_of f is_begun latest = if is_begun then f latest else latest

-- The n items that are still to come. java.util.stream.Stream, iterate and limit.
abbrev pub coming : {C : Type 0} → (C → C) → Bool → C → ℕ → List C
coming f is_begun latest n = iterates f (first_of f is_begun latest) n

pub length-iterates : {C : Type 0} (f : C → C) (x : C) (n : ℕ) → length (iterates f x n) ≡ n
length-iterates f x zero = refl
length-iterates f x (suc n) = ap suc (length-iterates f (f x) n)
