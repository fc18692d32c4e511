-- Runs of items in a row.
use Rattle.std.specs.Prelude.{ℕ, List, [], ◌∷◌, length, take, nat_le, if◌then◌else◌}

-- the lists of so many items in a row, from each place on from which there are as many
-- Rust's slice::windows
abbrev pub windows : {X : Type 0} → ℕ → List X → List (List X)
windows size [] = []
windows size (x ∷ xs) = if nat_le size (length (x ∷ xs)) then take size (x ∷ xs) ∷ windows size xs else []
