-- A list that is cut behind the first item that counts.
use Rattle.std.specs.Prelude.{◌≡◌, ◌<◌, ◌≤◌, ◌-◌, ◌==◌, ℕ, Bool, true, false, cond, List, ◌++◌, map, take, drop, length, count_by, Option, Some}
use Rattle.std.proofs.Common.{ap, sym, ◌∙◌, subst, arith, inl, inr, ⊎_elim, true≢false}
use Rattle.std.proofs.lemmas.List.{length-map, length-take, map-append, take-append-drop, take-map, take-take, drop_all}
use Rattle.std.proofs.lemmas.List.Sums.{sum_by-take-le}
use Rattle.std.proofs.lemmas.Bool.{cases_lt}
use Rattle.spliterator.specs.Scalars.{nat_eq-decides}
use Rattle.barriers.specs.Needs.{IsEnough, IsOutcome, IsToldBy}

-- where one counting item isn't what is needed, there is nothing to tell
pub untold : {C : Type 0} (needed : Option ℕ) (counted : C → Bool) (xs : List C) → (needed ≡ Some 1 → ⊥) → IsToldBy needed counted xs false
untold needed counted xs other = record {
  none = λ h one. absurd (other one);
  some = λ h one. absurd (other one);
  last = λ one. absurd (other one);
}

-- the items that are kept, and those that the barrier saw
module _ {T C : Type 0} (content : T → C) (counted : C → Bool) (items kept seen : List T) (taken counting : ℕ) (is_kept : kept ≡ take taken items) (same : seen ≡ items)
    (was : counting ≡ count_by counted (map content (take taken seen))) (most : counting ≤ 1) (all : counting < 1 → taken ≡ length seen) where
  is : counting ≡ count_by counted (map content kept)
  is = was ∙ ap (λ l. count_by counted (map content (take taken l))) same ∙ ap (λ l. count_by counted (map content l)) (sym is_kept)

  whole : counting < 1 → taken ≡ length items
  whole none = all none ∙ ap length same

  pub cut-front : (needed : Option ℕ) → needed ≡ Some 1 → IsOutcome needed counted (map content items) (map content kept)
  cut-front needed one = (
    map content (drop taken items),
    ap (map content) (sym (ap (λ l. l ++ drop taken items) is_kept ∙ take-append-drop taken items)) ∙ map-append content kept (drop taken items),
    ⊎_elim
        (λ none. inl (ap (map content) (drop_all taken items (let few = whole none in omega (arith, few)))))
        (λ some. inr (subst (λ n. IsEnough n counted (map content kept)) (sym one) (omega (arith, is, some))))
        (cases_lt counting 1),
  )

  within-taken : (n : ℕ) → n < length (map content kept) → n < taken
  within-taken n within = omega (arith, within, length-map kept content, ap length is_kept, length-take taken items)

  shorter : (n : ℕ) → n < taken → take n (map content kept) ≡ take n (map content (take (taken - 1) seen))
  shorter n within =
      ap (λ l. take n (map content l)) is_kept
      ∙ take-map content n (take taken items) ∙ ap (map content) (take-take n taken items (omega (arith, within)))
      ∙ sym (ap (λ l. take n (map content (take (taken - 1) l))) same ∙ take-map content n (take (taken - 1) items) ∙ ap (map content) (take-take n (taken - 1) items (omega (arith, within))))

  none-counts : (counting == 1) ≡ false → counting ≡ 0
  none-counts other =
      ⊎_elim (λ few. omega (arith, few)) (λ some. absurd (true≢false (sym ((nat_eq-decides counting 1).1 (omega (arith, some, most))) ∙ other))) (cases_lt counting 1)

  pub cut-told : (needed : Option ℕ) → (0 < taken → count_by counted (map content (take (taken - 1) seen)) < 1)
      → IsToldBy needed counted (map content kept) (counting == 1)
  cut-told needed shortest = record {
    none = λ cut one. sym is ∙ none-counts cut;
    some = λ cut one. omega (arith, is, (nat_eq-decides counting 1).0 cut);
    last = λ one n within.
        let before = map content (take (taken - 1) seen) in
        let less = sum_by-take-le (λ x. cond (counted x) 1 0) before n in
        let none = shortest (omega (arith, within-taken n within)) in
        let same = ap (count_by counted) (shorter n (within-taken n within)) in
        omega (arith, less, none, same);
  }
