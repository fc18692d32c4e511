-- Members sorted beside their keys are members sorted by their keys.
use Rattle.std.specs.Prelude.{◌≡◌, ◌+◌, All, List, [], ◌∷◌, map, refl, Bool}
use Rattle.std.proofs.Common.{ap, ap₂, sym, subst, ◌∙◌, arith}
use Rattle.std.proofs.Math.ListN.{get_or-map}
use Rattle.std.proofs.lemmas.List.{length-map}
use Rattle.std.proofs.lemmas.List.Elements.{All-cons, All-head, All-nil, All-tail}
use Rattle.std.proofs.lemmas.List.Sorted.{All-permutation, IsPermutation-map, ranks_by}
use Rattle.std.specs.Cmp.{IsTotalOrder}
use Rattle.std.specs.List.Sorted.{IsPermutation, IsSorted, IsStable, ties}
use Rattle.std.specs.Ordering.{is_lt}
use Rattle.std.specs.declared.cmp.Ordering.{Ordering}
use Rattle.rayon.proofs.ToStd.{filter-map}
use Rattle.collectors.specs.Grouping.{contents}
use Rattle.terminals.specs.Sorted.{IsSortedList, beside_keys, by_key}
use Rattle.terminals.proofs.Images.{sorted-contents}

module _ {C D : Type 0} (view : C → D) (back : D → C) (returns : (c : C) → back (view c) ≡ c) (order : D → D → Ordering) where
  map-back : (l : List C) → map back (map view l) ≡ l
  map-back [] = refl
  map-back (c ∷ l) = ap₂ ◌∷◌ (returns c) (map-back l)

  ascending : (l : List C) → IsSorted order (map view l) → IsSorted (λ c d. order (view c) (view d)) l
  ascending l up k d low within =
      let long = length-map l view in
      ap₂ (λ x y. is_lt (order x y)) (sym (get_or-map view l (k + 1) d)) (sym (get_or-map view l k d)) ∙ up k (view d) low (omega arith)

  stable : (l s : List C) → IsStable order (map view l) (map view s) → IsStable (λ c d. order (view c) (view d)) l s
  stable l s keeps c =
      let tied = ties (λ (x y : D). is_lt (order x y)) (view c) in
      sym (map-back _) ∙ ap (map back) (sym (filter-map tied view s) ∙ keeps (view c) ∙ filter-map tied view l) ∙ map-back _

  -- sorted images that show their members are those of a sorted list
  sorted-members : (l s : List C) → IsSortedList order (map view l) (map view s) → IsSortedList (λ c d. order (view c) (view d)) l s
  sorted-members l s h =
      record {
        permutation = subst (λ m. IsPermutation m s) (map-back l) (subst (IsPermutation _) (map-back s) (IsPermutation-map back (map view l) (map view s) h.permutation));
        ascending = ascending s h.ascending;
        stable = stable l s h.stable;
      }

module _ {K T L C : Type 0} (key_content : K → L) (content : T → C) (image : C → L) where
  abbrev shown : K × T → L × C
  shown p = (key_content p.0, content p.1)

  abbrev keyed : C → L × C
  keyed c = (image c, c)

  abbrev IsKeyed : L × C → Type 0
  IsKeyed p = p.0 ≡ image p.1

  all-keyed : (l : List C) → All IsKeyed (map keyed l)
  all-keyed [] = All-nil IsKeyed
  all-keyed (c ∷ l) = All-cons IsKeyed (keyed c) (map keyed l) refl (all-keyed l)

  as-keyed : (ps : List (K × T)) → All IsKeyed (contents key_content content ps) → contents key_content content ps ≡ beside_keys image (map content (map (λ p. p.1) ps))
  as-keyed [] h = refl
  as-keyed (p ∷ ps) h =
      let rest = contents key_content content ps in
      ap₂ ◌∷◌ (ap (λ k. (k, content p.1)) (All-head IsKeyed (shown p) rest h)) (as-keyed ps (All-tail IsKeyed (shown p) rest h))

  -- pairs of the members' keys and the members, sorted by their first parts
  pub sorted-keyed : (cmp : K → K → Ordering) (order : L → L → Ordering) → ((x y : K) → cmp x y ≡ order (key_content x) (key_content y)) → IsTotalOrder order
      → (l : List C) (ps qs : List (K × T)) → contents key_content content ps ≡ beside_keys image l
      → IsSortedList (by_key (λ p. p.0) cmp) ps qs → IsSortedList (by_key image order) l (map content (map (λ p. p.1) qs))
  sorted-keyed cmp order agrees total l ps qs made h =
      let by_first : L × C → L × C → Ordering = by_key (λ p. p.0) order in
      let below : K × T → K × T → Bool = λ p q. is_lt (cmp p.0 q.0) in
      let pairs = sorted-contents shown below by_first (ranks_by total (λ p. p.0)) (λ p q. ap is_lt (agrees p.0 q.0)) ps qs h.permutation h.ascending h.stable in
      let listed : IsSortedList by_first (beside_keys image l) (contents key_content content qs) = subst (λ m. IsSortedList by_first m (contents key_content content qs)) made pairs in
      let whole = as-keyed qs (All-permutation IsKeyed (beside_keys image l) (contents key_content content qs) listed.permutation (all-keyed l)) in
      sorted-members keyed (λ p. p.1) (λ c. refl) by_first l (map content (map (λ p. p.1) qs)) (subst (IsSortedList by_first (beside_keys image l)) whole listed)
