-- Items that ascend.
use Rattle.std.specs.Prelude.{◌≡◌, ℕ, ◌-◌, ◌^◌, ◌<◌, ◌≤◌, nat_le, false, IsTrue, List, length, refl, if◌then◌else◌}
use Rattle.std.specs.Cmp.{IsTotalOrder}
use Rattle.std.specs.List.Sorted.{IsSorted}
use Rattle.std.specs.Ordering.{is_le, is_lt, ordering_reverse}
use Rattle.std.specs.declared.cmp.Ordering.{Ordering}
use Rattle.std.specs.declared.cmp.Ordering.TheVariants.{Less, Equal, Greater}
use Rattle.std.proofs.Common.{⊎_elim, ap, sym, subst, arith, true≢false, ◌∙◌}
use Rattle.std.proofs.lemmas.Bool.{cases_lt}
use Rattle.std.proofs.lemmas.Bool.Decides.{nat_tests}
use Rattle.spliterator.specs.Characteristics.{tells, tells_sized, tells_subsized}
use Rattle.sources.specs.Halves.{capped_count}
use Rattle.std.proofs.Math.Bool.{Bool-set}
use Rattle.std.proofs.lemmas.List.MinMax.{ranks_by}
use Rattle.std.proofs.lemmas.List.Sorted.{sorted_far}
use Rattle.spliterator.specs.Spliterator.{IsSoundFor}
use Rattle.sources.specs.HalvesLaws.{CountsItems}

-- SORTED beside what each counted source tells of so many items
-- java.util.Spliterator, its constant 0x4; java.util.SortedSet, spliterator
abbrev pub told_ascending : ℕ → ℕ
told_ascending n = if nat_le n (2 ^ 63 - 1) then 0x4554 else 0x514

told-few : (n : ℕ) → n < 2 ^ 63 → told_ascending n ≡ 0x4554
told-few n h = grind (arith, nat_tests)

told-many : (n : ℕ) → 2 ^ 63 ≤ n → told_ascending n ≡ 0x514
told-many n h = grind (arith, nat_tests)

few_from_told : (n flag : ℕ) → tells 0x514 flag ≡ false → IsTrue (tells (told_ascending n) flag) → n < 2 ^ 63
few_from_told n flag unknown h =
    ⊎_elim (λ few. few) (λ many. absurd (true≢false (sym h ∙ ap (λ told. tells told flag) (told-many n many) ∙ unknown))) (cases_lt n (2 ^ 63))

pub CountsItems-ascending : {S C : Type 0} (items : S → List C) → CountsItems items (λ s. length (items s)) (λ s. capped_count (length (items s))) (λ s. told_ascending (length (items s)))
CountsItems-ascending items = record {
  weighs = λ s. refl;
  estimates = λ s. refl;
  sized = λ s few. ap tells_sized (told-few (length (items s)) few);
  subsized = λ s few. ap tells_subsized (told-few (length (items s)) few);
  sized_only = λ s h. few_from_told (length (items s)) 0x40 refl h;
  subsized_only = λ s h. few_from_told (length (items s)) 0x4000 refl h;
}

distinct-not_told : (n : ℕ) → tells (told_ascending n) 0x1 ≡ false
distinct-not_told n =
    ⊎_elim (λ few. ap (λ told. tells told 0x1) (told-few n few)) (λ many. ap (λ told. tells told 0x1) (told-many n many)) (cases_lt n (2 ^ 63))

pub IsSorted-prop : {C : Type 0} (order : C → C → Ordering) (items : List C) → IsProp (IsSorted order items)
IsSorted-prop order items = hlevel (Bool-set)

at_most : (o : Ordering) → is_lt o ≡ false → IsTrue (is_le (ordering_reverse o))
at_most Less h = absurd (true≢false h)
at_most Equal h = refl
at_most Greater h = refl

-- items that ascend may be told to
pub IsSoundFor-ascending : {C : Type 0} (order : C → C → Ordering) → IsTotalOrder order → (items : List C) → IsSorted order items → IsSoundFor order (told_ascending (length items)) items
IsSoundFor-ascending order total items ascending = record {
  distinct = λ h. absurd (true≢false (sym h ∙ distinct-not_told (length items)));
  sorted = λ _ i j d before within.
      subst (λ o. IsTrue (is_le o)) (sym (total.antisymm _ _))
      (at_most _ (sorted_far (λ x y. is_lt (order x y)) (ranks_by total (λ c. c)) items ascending i j d (omega (arith, before)) within));
}
