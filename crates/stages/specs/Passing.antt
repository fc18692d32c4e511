-- What a sink takes through a stage.
use Rattle.std.specs.Prelude.{◌≡◌, List, [], ◌∷◌, ◌++◌, flat_map, refl}
use Rattle.std.proofs.Common.{sym, subst, ap, ◌∙◌}
use Rattle.std.proofs.lemmas.List.Concat.{flat_map-append}

pub passes-both : {B K X Y : Type 0} (takes : K → List Y → K → Type 0)
    → ((a b c : K) (xs ys : List Y) → takes a xs b → takes b ys c → takes a (xs ++ ys) c)
    → (expand : B → X → List Y) (m n : B) (a b c : K) (xs ys : List X) → n ≡ m
    → takes a (flat_map (expand m) xs) b → takes b (flat_map (expand n) ys) c → takes a (flat_map (expand m) (xs ++ ys)) c
passes-both {B} {K} {X} {Y} takes both expand m n a b c xs ys same p q =
    let P : List Y → Type 0 = λ l. takes a l c in
    let Q : B → Type 0 = λ o. takes b (flat_map (expand o) ys) c in
    subst P (sym (flat_map-append (expand m) xs ys)) (both a b c (flat_map (expand m) xs) (flat_map (expand m) ys) p (subst Q same q))

-- one expansion behind another
pub flat_map-flat_map : {A B C : Type 0} (f : A → List B) (g : B → List C) (l : List A) → flat_map g (flat_map f l) ≡ flat_map (λ x. flat_map g (f x)) l
flat_map-flat_map f g [] = refl
flat_map-flat_map f g (x ∷ l) = flat_map-append g (f x) (flat_map f l) ∙ ap (λ r. flat_map g (f x) ++ r) (flat_map-flat_map f g l)

-- each item as it is
pub flat_map-one : {A : Type 0} (l : List A) → flat_map (λ x. x ∷ []) l ≡ l
flat_map-one [] = refl
flat_map-one (x ∷ l) = ap (λ r. x ∷ r) (flat_map-one l)
