-- Where members that tie are one, a list in ascending order is the sorted list, however its members were moved.
use Rattle.std.specs.Prelude.{◌≡◌, ℕ, suc, Bool, true, cond, not, ◌&&◌, List, [], ◌∷◌, map, refl, replicate}
use Rattle.std.proofs.Common.{ap, ap₂, sym, subst, ◌∙◌, arith}
use Rattle.std.proofs.lemmas.List.Sorted.{IsPermutation-map, ranks_by, sum_by-IsPermutation}
use Rattle.std.proofs.lemmas.List.Sums.{sum_by-cons}
use Rattle.std.specs.Cmp.{IsTotalOrder}
use Rattle.std.specs.List.{filter, sum_by}
use Rattle.std.specs.List.Sorted.{IsPermutation, IsSorted, IsStable, ties}
use Rattle.std.specs.Ordering.{is_eq, is_lt, ordering_reverse}
use Rattle.std.specs.declared.cmp.Ordering.{Ordering}
use Rattle.std.specs.declared.cmp.Ordering.TheVariants.{Less, Equal, Greater}
use Rattle.spliterator.specs.Values.{DecidesEquality}
use Rattle.stages.specs.Tests.{either}
use Rattle.terminals.specs.Sorted.{IsSortedList}
use Rattle.terminals.proofs.Images.{ascending}

neither-lower : (o p : Ordering) → p ≡ ordering_reverse o → not (is_lt o) && not (is_lt p) ≡ true → is_eq o ≡ true
neither-lower Less p turned h = h
neither-lower Equal p turned h = refl
neither-lower Greater p turned h = subst (λ q. not (is_lt q) ≡ true) turned h

-- those that pass a test that one alone passes are so many times that one
copies : {C : Type 0} (p : C → Bool) (c : C) → ((d : C) → p d ≡ true → c ≡ d) → (l : List C) → filter p l ≡ replicate (sum_by (λ d. cond (p d) 1 0) l) c
copies p c one [] = refl
copies p c one (d ∷ l) =
    let one_if : Bool → ℕ = λ b. cond b 1 0 in
    let counts : _ → ℕ = λ e. one_if (p e) in
    let rest = copies p c one l in
    let more = sum_by-cons counts d l in
    either (p d)
    (λ h. let number : sum_by counts (d ∷ l) ≡ suc (sum_by counts l) = omega (arith, more, ap one_if h) in rw (number, h) (ap₂ ◌∷◌ (sym (one d h)) rest))
    (λ h. let number : sum_by counts (d ∷ l) ≡ sum_by counts l = omega (arith, more, ap one_if h) in rw (number, h) rest)

module _ {C : Type 0} (order : C → C → Ordering) (total : IsTotalOrder order) (same : C → C → Bool) (decides : DecidesEquality same)
    (ties_are : (c d : C) → same c d ≡ is_eq (order c d)) where
  tied-one : (c d : C) → ties (λ x y. is_lt (order x y)) c d ≡ true → c ≡ d
  tied-one c d tie = (decides c d).0 (ties_are c d ∙ neither-lower (order c d) (order d c) (total.antisymm d c) tie)

  stable : (l s : List C) → IsPermutation l s → IsStable order l s
  stable l s moved c =
      let p = ties (λ x y. is_lt (order x y)) c in
      let number = sum_by-IsPermutation (λ d. cond (p d) 1 0) l s moved in
      copies p c (tied-one c) s ∙ ap (λ n. replicate n c) number ∙ sym (copies p c (tied-one c) l)

  pub sorted-moved : {X : Type 0} (content : X → C) (cmp : X → X → Ordering) → ((x y : X) → cmp x y ≡ order (content x) (content y))
      → (xs ys : List X) → IsPermutation xs ys → IsSorted cmp ys → IsSortedList order (map content xs) (map content ys)
  sorted-moved content cmp agrees xs ys moved up =
      let images = IsPermutation-map content xs ys moved in
      record {
        permutation = images;
        ascending = ascending content (λ x y. is_lt (cmp x y)) order (ranks_by total (λ d. d)) (λ x y. ap is_lt (agrees x y)) ys up;
        stable = stable (map content xs) (map content ys) images;
      }
