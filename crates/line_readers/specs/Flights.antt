-- Blocks that are worked on at once.
use Rattle.std.specs.Prelude.{◌≡◌, ◌++◌, ℕ, List, All, flat_map}
use Rattle.sources.specs.Lines.{text_lines}

-- what is given of each list whose container this is, is given of these items
abbrev pub Settles : {Z C O : Type 0} → (List Z → C → Type 0) → (List Z → O → Type 0) → List Z → C → Type 0
Settles made gives items acc = (out : _) → ((l : List _) → made l acc → gives l out) → gives items out

-- the container settles what the lines become, and whatever follows, behind what was there before
abbrev pub IsSettled : {Z C O : Type 0} → (List Z → C → Type 0) → (List Z → O → Type 0) → (List (List ℕ) → List Z) → List Z → List (List ℕ) → C → Type 0
IsSettled made gives values before lines acc = (more : List (List ℕ)) → Settles made gives (before ++ values (lines ++ more)) acc

-- behind what was there before, what the first lines become is in the container, and the texts at work have the other lines
pub record IsFlying {Z C W : Type 0} (made : List Z → C → Type 0) (values : List (List ℕ) → List Z) (IsOurs : W → Type 0) (text : W → List ℕ) (before : List Z) (lines : List (List ℕ)) (acc : C) (at_work : List W) : Type 0 where
  pub done : List (List ℕ)
  pub in_acc : made (before ++ values done) acc
  pub ours : All IsOurs at_work
  pub all : lines ≡ done ++ flat_map (λ w. text_lines (text w)) at_work
