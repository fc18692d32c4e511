-- Items with their places.
use Rattle.std.specs.Prelude.{ℕ, ◌+◌, ℤ, pos, List, [], ◌∷◌}

-- each item with its place, from n on
-- Rust's Iterator::enumerate
abbrev pub numbered_from : {C : Type 0} → ℕ → List C → List (ℤ × C)
numbered_from n [] = []
numbered_from n (x ∷ xs) = (pos n, x) ∷ numbered_from (n + 1) xs
