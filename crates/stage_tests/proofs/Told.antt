-- What a front tells of the list that it leaves.
use Rattle.std.proofs.Common.{◌≡◌, ◌-◌, ◌≤◌, ◌<◌, ◌==◌, ℕ, min, Bool, cond, Option, Some, List, map, take, length, ap, ◌∙◌, sym, arith}
use Rattle.std.specs.Prelude.{count_by}
use Rattle.std.proofs.lemmas.List.{length-map, length-take, take-map, take-take}
use Rattle.std.proofs.lemmas.List.Sums.{sum_by-take-le}
use Rattle.std.proofs.lemmas.Bool.{eqb-true, eqb-false}
use Rattle.barriers.specs.Needs.{IsToldBy}

module _ {T C : Type 0} (content : T → C) (counted : C → Bool) (items kept : List T) (needed : Option ℕ) (taken counting wanted : ℕ) where
  pub told-front : Some wanted ≡ needed → kept ≡ take taken items → counting ≡ count_by counted (map content (take taken items)) → counting ≤ wanted
      → (0 < taken → count_by counted (map content (take (taken - 1) items)) < wanted) → IsToldBy needed counted (map content kept) (counting == wanted)
  told-front needs is counts most shortest = record {
    none = λ apart one. let w = is_one one in let e = eqb-false counting wanted apart in omega (arith, all, w, e, most);
    some = λ same one. let w = is_one one in let e = eqb-true counting wanted same in omega (arith, all, w, e);
    last = λ one n within. let w = is_one one in none-before n w within;
  }
    where
      is_one : needed ≡ Some 1 → wanted ≡ 1
      is_one one = let e : Some wanted ≡ Some 1 = needs ∙ one in cc

      all : counting ≡ count_by counted (map content kept)
      all = counts ∙ ap (λ l. count_by counted (map content l)) (sym is)

      none-before : (n : ℕ) → wanted ≡ 1 → n < length (map content kept) → count_by counted (take n (map content kept)) ≡ 0
      none-before n w within =
          let long : length (map content kept) ≡ min taken (length items) = length-map kept content ∙ ap length is ∙ length-take taken items in
          let before : n ≤ taken - 1 = omega (arith, within, long) in
          let front = map content (take (taken - 1) items) in
          let few : count_by counted front < wanted = shortest (omega (arith, within, long)) in
          let fewer : count_by counted (take n front) ≤ count_by counted front = sum_by-take-le (λ x. cond (counted x) 1 0) front n in
          let same : take n (map content kept) ≡ take n front =
          take-map content n kept
          ∙ ap (λ l. map content (take n l)) is
          ∙ ap (map content) (take-take n taken items (omega (arith, before)) ∙ sym (take-take n (taken - 1) items before))
          ∙ sym (take-map content n (take (taken - 1) items)) in
          ap (count_by counted) same ∙ omega (arith, few, fewer, w)
