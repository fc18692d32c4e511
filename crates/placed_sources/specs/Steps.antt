-- What stands at every so many places of a list.
use Rattle.std.specs.Prelude.{ℕ, zero, suc, ◌-◌, List, [], ◌∷◌, take}

-- `image` of the list from each place on that stands so many behind the one before; the first of these is so many places away
abbrev pub at_steps : {X Y : Type 0} → (X → List X → Y) → ℕ → ℕ → List X → List Y
at_steps image step away [] = []
at_steps image step zero (x ∷ xs) = image x xs ∷ at_steps image step (step - 1) xs
at_steps image step (suc away) (x ∷ xs) = at_steps image step away xs

-- the first item, and each that stands so many places behind the one before
-- Rust's Iterator::step_by
abbrev pub every : {X : Type 0} → ℕ → List X → List X
every step xs = at_steps (λ x rest. x) step 0 xs

-- lists of so many items in a row, of which the last may have fewer
-- Rust's slice::chunks
abbrev pub chunks : {X : Type 0} → ℕ → List X → List (List X)
chunks size xs = at_steps (λ x rest. take size (x ∷ rest)) size 0 xs
