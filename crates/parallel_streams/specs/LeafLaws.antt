-- The lists of leaves, through stages.
use Rattle.std.specs.Prelude.{◌≡◌, ◌+◌, ℕ, zero, suc, List, [], ◌∷◌, ◌++◌, Option, Some, None, IfSome, map, flat_map, drop, length, slice_index_or, slice_get, refl}
use Rattle.std.proofs.Common.{sym, ap, ◌∙◌, arith}
use Rattle.std.proofs.lemmas.List.{length-map}
use Rattle.std.proofs.lemmas.List.Concat.{flat_map-append}
use Rattle.stealing_pool.specs.Spans.{joined}

-- a stage's items through another are the items through both
pub flat_map-fused : {A B C : Type 0} (f : A → List B) (g : B → List C) (l : List A) → flat_map (λ x. flat_map g (f x)) l ≡ flat_map g (flat_map f l)
flat_map-fused f g [] = refl
flat_map-fused f g (x ∷ l) = ap (λ m. flat_map g (f x) ++ m) (flat_map-fused f g l) ∙ sym (flat_map-append g (f x) (flat_map f l))

pub flat_map-alone : {A : Type 0} (l : List A) → flat_map (λ x. x ∷ []) l ≡ l
flat_map-alone [] = refl
flat_map-alone (x ∷ l) = ap (λ m. x ∷ m) (flat_map-alone l)

pub some-weaker : {A : Type 0} (o : Option A) (P Q : A → Type 0) → ((x : A) → P x → Q x) → IfSome o P → IfSome o Q
some-weaker None P Q f h = tt
some-weaker (Some x) P Q f h = f x h

-- each list through two stages as one
pub map-fused : {A B C : Type 0} (f : A → List B) (g : B → List C) (lists : List (List A)) → map (flat_map (λ x. flat_map g (f x))) lists ≡ map (flat_map g) (map (flat_map f) lists)
map-fused f g [] = refl
map-fused f g (l ∷ lists) = ap (λ m. m ∷ map (flat_map (λ x. flat_map g (f x))) lists) (flat_map-fused f g l) ∙ ap (λ ms. flat_map g (flat_map f l) ∷ ms) (map-fused f g lists)

-- each list through no stage
pub map-alone : {A : Type 0} (lists : List (List A)) → map (flat_map (λ x. x ∷ [])) lists ≡ lists
map-alone [] = refl
map-alone (l ∷ lists) = ap (λ m. m ∷ map (flat_map (λ x. x ∷ [])) lists) (flat_map-alone l) ∙ ap (λ ms. l ∷ ms) (map-alone lists)

pub map-both : {A B C : Type 0} (f : A → B) (g : B → C) (xs : List A) → map g (map f xs) ≡ map (λ x. g (f x)) xs
map-both f g [] = refl
map-both f g (x ∷ xs) = ap (λ l. g (f x) ∷ l) (map-both f g xs)

joined-map : {A B : Type 0} (f : A → List B) (lists : List (List A)) → joined (map (flat_map f) lists) ≡ flat_map f (joined lists)
joined-map f [] = refl
joined-map f (l ∷ lists) = ap (λ m. flat_map f l ++ m) (joined-map f lists) ∙ sym (flat_map-append f l (joined lists))

-- the lists through a stage are the whole list through it
pub joined-through : {A B : Type 0} (f : A → List B) (lists : List (List A)) (whole : List A) → joined lists ≡ whole → joined (map (flat_map f) lists) ≡ flat_map f whole
joined-through f lists whole h = joined-map f lists ∙ ap (flat_map f) h

pub count-through : {A B : Type 0} (f : A → List B) (lists : List (List A)) (n : ℕ) → length lists ≡ n → length (map (flat_map f) lists) ≡ n
count-through f lists n h = length-map lists (flat_map f) ∙ h

joined-items : {S C : Type 0} (items : S → List C) (leaves : List S) → joined (map items leaves) ≡ flat_map items leaves
joined-items items [] = refl
joined-items items (s ∷ leaves) = ap (λ m. items s ++ m) (joined-items items leaves)

-- the lists of a plan's leaves are the source's items
pub joined-leaves : {S C : Type 0} (items : S → List C) (whole : List C) (leaves : List S) → flat_map items leaves ≡ whole → joined (map items leaves) ≡ whole
joined-leaves items whole leaves h = joined-items items leaves ∙ h

-- and before what stands behind them
pub leaves-behind : {S C : Type 0} (items : S → List C) (leaves : List S) (behind : List C) → flat_map items leaves ++ behind ≡ joined (map items leaves) ++ behind
leaves-behind items leaves behind = ap (λ l. l ++ behind) (sym (joined-items items leaves))

-- what is left, through a stage, is the lists of the leaves through it, and what is behind them through it
pub left-through : {A B : Type 0} (f : A → List B) (lists : List (List A)) (left behind : List A) → left ≡ joined lists ++ behind
    → flat_map f left ≡ joined (map (flat_map f) lists) ++ flat_map f behind
left-through f lists left behind is = ap (flat_map f) is ∙ flat_map-append f (joined lists) behind ∙ ap (λ l. l ++ flat_map f behind) (sym (joined-map f lists))

pub count-leaves : {S C : Type 0} (items : S → List C) (leaves : List S) → length (map items leaves) ≡ length leaves
count-leaves items leaves = length-map leaves items

-- a member through a function
pub get-mapped : {A B : Type 0} (f : A → B) (xs : List A) (i : ℕ) (x : A) (d : B) → slice_get xs i ≡ Some x → slice_index_or (map f xs) i d ≡ f x
get-mapped f [] i x d h = absurd (none≢some h)
  where
    none≢some : None ≡ Some x → ⊥
    none≢some e = cc
get-mapped f (y ∷ xs) zero x d h = ap f (some-same h)
  where
    some-same : Some y ≡ Some x → y ≡ x
    some-same e = cc
get-mapped f (y ∷ xs) (suc i) x d h = get-mapped f xs i x d h

drop-none : {T : Type 0} (n : ℕ) → drop {A = T} n [] ≡ []
drop-none zero = refl
drop-none (suc n) = refl

pub drop-more : {T : Type 0} (m n : ℕ) (xs : List T) → drop n (drop m xs) ≡ drop (m + n) xs
drop-more zero n xs = let e : n ≡ 0 + n = omega arith in ap (λ k. drop k xs) e
drop-more (suc m) n [] = drop-none n ∙ sym (drop-none (suc m + n))
drop-more (suc m) n (x ∷ xs) = let e : suc (m + n) ≡ suc m + n = omega arith in drop-more m n xs ∙ ap (λ k. drop k (x ∷ xs)) e
