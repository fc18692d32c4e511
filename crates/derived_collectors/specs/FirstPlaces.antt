-- Places of items in a list.
use Rattle.std.specs.Prelude.{Bool, cond, ◌+◌, ℕ, List, [], ◌∷◌, ◌++◌, map, take}

-- the places of the items that meet a test, where the first item has this place
abbrev pub places_from : {X : Type 0} → (X → Bool) → ℕ → List X → List ℕ
places_from test place [] = []
places_from test place (x ∷ l) = cond (test x) (place ∷ places_from test (place + 1) l) (places_from test (place + 1) l)

-- rayon::iter::IndexedParallelIterator, positions
abbrev pub places : {X : Type 0} → (X → Bool) → List X → List ℕ
places test l = places_from test 0 l

-- how many items there were, and the first so many places: one item more
abbrev pub place_add : {X : Type 0} → (X → Bool) → ℕ → ℕ × List ℕ → X → ℕ × List ℕ
place_add test number a x = (a.0 + 1, take number (a.1 ++ places_from test a.0 (x ∷ [])))

-- .. and the items that follow
abbrev pub place_merge : ℕ → ℕ × List ℕ → ℕ × List ℕ → ℕ × List ℕ
place_merge number a b = (a.0 + b.0, take number (a.1 ++ map (λ place. a.0 + place) b.1))
