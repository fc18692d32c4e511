-- What the lines of some bytes become.
-- java.nio.file.Files, lines; java.lang.String, lines
use Rattle.std.specs.Prelude.{◌≡◌, ◌++◌, ℕ, List, map, flat_map}
use Rattle.sources.specs.Lines.{text_lines}

-- the expansions of what a function makes of each line
abbrev pub values_of : {Y Z : Type 0} → (List ℕ → Y) → (Y → List Z) → List (List ℕ) → List Z
values_of image expand lines = flat_map expand (map image lines)

-- .. of all lines of a text
abbrev pub line_values : {Y Z : Type 0} → (List ℕ → Y) → (Y → List Z) → List ℕ → List Z
line_values image expand bytes = values_of image expand (text_lines bytes)

-- what is made of these items and of more is what is kept of these, and then what is made of more
abbrev pub GoesOn : {X Y : Type 0} → (List X → List Y) → (List X → List Y) → List X → List Y → Type 0
GoesOn before behind items kept = (more : List _) → before (items ++ more) ≡ kept ++ behind more

-- what was kept of these items is in the container, through the last stage, and the state is the one behind them
pub record IsTaken {X Y Z C S : Type 0} (made : List Z → C → Type 0) (last : Y → List Z) (value : List X → List Y) (behind : S → List X → List Y) (items : List X) (taken : C × S) : Type 0 where
  pub kept : List Y
  pub in_acc : made (flat_map last kept) taken.0
  pub on : GoesOn value (behind taken.1) items kept
