-- Maps and filters as flat maps, which is how a stage is told.
use Rattle.std.specs.Prelude.{◌≡◌, Bool, true, false, cond, List, [], ◌∷◌, ◌++◌, map, filter, flat_map, refl}
use Rattle.std.proofs.Common.{ap}

pub map-flat_map : {A B : Type 0} (f : A → B) (l : List A) → map f l ≡ flat_map (λ x. f x ∷ []) l
map-flat_map f [] = refl
map-flat_map f (x ∷ l) = ap (λ r. f x ∷ r) (map-flat_map f l)

pub filter-flat_map : {A : Type 0} (p : A → Bool) (l : List A) → filter p l ≡ flat_map (λ x. cond (p x) (x ∷ []) []) l
filter-flat_map p [] = refl
filter-flat_map p (x ∷ l) = head (flat_map (λ x. cond (p x) (x ∷ []) []) l) (filter-flat_map p l) (p x)
  where
    head : (kept : List _) → filter p l ≡ kept → (b : Bool) → cond b (x ∷ filter p l) (filter p l) ≡ cond b (x ∷ []) [] ++ kept
    head kept e true = ap (λ l. x ∷ l) e
    head kept e false = e
