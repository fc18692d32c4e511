-- How the bytes that a reader has left are cut into blocks of whole lines.
use Rattle.std.specs.Prelude.{◌≡◌, ◌⊎◌, ℕ, List, [], ◌∷◌, ◌++◌, Option, Some, None, ⊤}
use Rattle.sources.specs.Lines.{text_lines}

-- the last byte is a line feed
abbrev pub EndsLine : List ℕ → Type 0
EndsLine bytes = (front : List ℕ) × (bytes ≡ front ++ 10 ∷ [])

-- the block stands in front of what is left, and ends a line, or is all
pub record IsBlock (all block rest : List ℕ) : Type 0 where
  pub bytes : all ≡ block ++ rest
  pub ends : EndsLine block ⊎ (rest ≡ [])

-- a block was taken off the known bytes
abbrev pub TakesBlock : Option (List ℕ) → List ℕ → Option (List ℕ) → Type 0
TakesBlock None block left = ⊤
TakesBlock (Some all) block None = ⊥
TakesBlock (Some all) block (Some left) = IsBlock all block left

-- the lines of what was read of the known bytes are in the container: `made` relates lines to a container
abbrev pub IsFolded : {C : Type 0} → (List (List ℕ) → C → Type 0) → Option (List ℕ) → C → Option (List ℕ) → Type 0
IsFolded made None acc left = ⊤
IsFolded made (Some all) acc None = ⊥
IsFolded made (Some all) acc (Some left) = (done : List (List ℕ)) × made done acc × (text_lines all ≡ done ++ text_lines left)
