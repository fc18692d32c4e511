-- Members of arrays.
use Rattle.std.specs.Prelude.{◌≡◌, List, [], ◌∷◌, ◌++◌, refl}
use Rattle.std.proofs.Common.{ap₂}
use Rattle.serde_json.specs.Data.{Data, Items, array, no_items, item}
use Rattle.serde_json.specs.View.{items_of}

not-none : (d : Data) (ds : Items) → array (item d ds) ≡ array no_items → ⊥
not-none d ds h = cc

-- an array with a last member isn't empty
pub some-items : (before : List Data) (last : Data) → array (items_of (before ++ last ∷ [])) ≡ array (items_of []) → ⊥
some-items [] last h = not-none last no_items h
some-items (d ∷ before) last h = not-none d (items_of (before ++ last ∷ [])) h

-- what stands before the last member
pub before-last : {X : Type 0} (a b : List X) (x y : X) → a ++ x ∷ [] ≡ b ++ y ∷ [] → a ≡ b
before-last [] [] x y h = refl
before-last [] (c ∷ b) x y h =
    let rest : [] ≡ b ++ y ∷ [] = cc in
    absurd (some b rest)
  where
    some : (b : List _) → [] ≡ b ++ y ∷ [] → ⊥
    some [] h = cc
    some (c ∷ b) h = cc
before-last (c ∷ a) [] x y h =
    let rest : a ++ x ∷ [] ≡ [] = cc in
    absurd (some a rest)
  where
    some : (a : List _) → a ++ x ∷ [] ≡ [] → ⊥
    some [] h = cc
    some (c ∷ a) h = cc
before-last (c ∷ a) (d ∷ b) x y h =
    let first : c ≡ d = cc in
    let rest : a ++ x ∷ [] ≡ b ++ y ∷ [] = cc in
    ap₂ (λ e l. e ∷ l) first (before-last a b x y rest)
