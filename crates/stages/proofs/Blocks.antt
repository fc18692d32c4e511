-- What a sink took of a block, item by item.
use Rattle.std.specs.Prelude.{◌≡◌, List, [], ◌∷◌, ◌++◌, flat_map, map, refl, Result, Ok, Err, OnErr}
use Rattle.std.proofs.Common.{sym, subst, ap, ◌∙◌, append-nil, append_assoc}
use Rattle.std.proofs.lemmas.List.{map-append}
use Rattle.std.proofs.lemmas.List.Concat.{flat_map-append}

-- what holds anyway holds at a refusal
pub on_err_at : {T E P : Type 0} (r : Result T E) → P → OnErr r P
on_err_at (Ok x) p = tt
on_err_at (Err e) p = p

-- one more item was read of those that are left
pub read-next : {T : Type 0} (all front rest rest' : List T) (item : T) → rest ≡ item ∷ rest' → all ≡ front ++ rest → all ≡ (front ++ item ∷ []) ++ rest'
read-next all front rest rest' item step is = is ∙ ap (λ r. front ++ r) step ∙ sym (append_assoc front (item ∷ []) rest')

-- none is left
pub read-all : {T : Type 0} (all front rest : List T) → rest ≡ [] → all ≡ front ++ rest → front ≡ all
read-all all front rest ended is = sym (is ∙ ap (λ r. front ++ r) ended ∙ append-nil front)

module _ {S T Y : Type 0} (takes : S → List Y → S → Type 0) (both : (a b c : S) (xs ys : List Y) → takes a xs b → takes b ys c → takes a (xs ++ ys) c) (content : T → Y) where
  pub taken-append : (a b c : S) (all front back : List T) → all ≡ front ++ back → takes a (map content front) b → takes b (map content back) c → takes a (map content all) c
  taken-append a b c all front back is p q =
      subst (λ ys. takes a ys c) (sym (ap (map content) is ∙ map-append content front back)) (both a b c (map content front) (map content back) p q)

module _ {S X Y T : Type 0} (takes : S → List Y → S → Type 0) (both : (a b c : S) (xs ys : List Y) → takes a xs b → takes b ys c → takes a (xs ++ ys) c) (expand : X → List Y) (content : T → X) where
  abbrev expanded : List T → List Y
  expanded l = flat_map expand (map content l)

  pub fed-append : (a b c : S) (all front back : List T) → all ≡ front ++ back → takes a (expanded front) b → takes b (expanded back) c → takes a (expanded all) c
  fed-append a b c all front back is p q =
      subst (λ ys. takes a ys c) (sym (ap expanded is ∙ ap (flat_map expand) (map-append content front back) ∙ flat_map-append expand (map content front) (map content back)))
      (both a b c (expanded front) (expanded back) p q)

  pub fed-next : (a b c : S) (front : List T) (item : T) → takes a (expanded front) b → takes b (expand (content item)) c → takes a (expanded (front ++ item ∷ [])) c
  fed-next a b c front item p q = fed-append a b c (front ++ item ∷ []) front (item ∷ []) refl p (subst (λ ys. takes b ys c) (sym (append-nil (expand (content item)))) q)
