-- Whether some item meets a test.
use Rattle.std.specs.Prelude.{◌≡◌, ◌≤◌, ◌+◌, ℕ, Bool, true, false, cond, not, nat_lt, List, [], ◌∷◌, ◌++◌, Some, count_by, refl}
use Rattle.std.proofs.Common.{sym, ap, ◌∙◌, arith}
use Rattle.std.proofs.lemmas.Bool.Decides.{nat_tests}
use Rattle.std.proofs.lemmas.List.Sums.{sum_by-cons}
use Rattle.barriers.specs.Needs.{KeepsEnough}
use Rattle.parallel_streams.specs.Terminals.{any_meets, all_meet}

module _ {C : Type 0} (p : C → Bool) where
  or-assoc : (a b c : Bool) → cond (cond a true b) true c ≡ cond a true (cond b true c)
  or-assoc true b c = refl
  or-assoc false b c = refl

  -- not every member meets it exactly where some member does not
  pub all-by-any : (l : List C) → all_meet p l ≡ not (any_meets (λ x. not (p x)) l)
  all-by-any [] = refl
  all-by-any (x ∷ l) = at (p x) (all-by-any l)
    where
      at : (b : Bool) → all_meet p l ≡ not (any_meets (λ x. not (p x)) l) → cond b (all_meet p l) false ≡ not (cond (not b) true (any_meets (λ x. not (p x)) l))
      at true e = e
      at false e = refl

  pub any-append : (l more : List C) → any_meets p (l ++ more) ≡ cond (any_meets p l) true (any_meets p more)
  any-append [] more = refl
  any-append (x ∷ l) more = ap (λ b. cond (p x) true b) (any-append l more) ∙ sym (or-assoc (p x) (any_meets p l) (any_meets p more))

  met-at : (b : Bool) (n : ℕ) (rest : Bool) → 1 ≤ cond b 1 0 + n → (1 ≤ n → rest ≡ true) → cond b true rest ≡ true
  met-at true n rest enough later = refl
  met-at false n rest enough later = later (omega arith)

  pub met-of : (l : List C) → 1 ≤ count_by p l → any_meets p l ≡ true
  met-of [] enough = absurd (omega arith)
  met-of (x ∷ l) enough =
      let count = sum_by-cons (λ x. cond (p x) 1 0) x l in
      met-at (p x) (count_by p l) (any_meets p l) (omega (arith, count)) (λ more. met-of l more)

  -- one member that meets the test is enough
  pub KeepsEnough-any : KeepsEnough (Some 1) p (any_meets p)
  KeepsEnough-any front more enough =
      let met = met-of front enough in
      any-append front more ∙ ap (λ b. cond b true (any_meets p more)) met ∙ sym met

  met-counted : (b : Bool) (n : ℕ) (rest : Bool) → rest ≡ nat_lt 0 n → cond b true rest ≡ nat_lt 0 (cond b 1 0 + n)
  met-counted true n rest is = grind (arith, nat_tests)
  met-counted false n rest is =
      let count : n ≡ 0 + n = omega arith in
      is ∙ ap (nat_lt 0) count

  -- some member meets it exactly where more than none do
  pub any-by-count : (l : List C) → any_meets p l ≡ nat_lt 0 (count_by p l)
  any-by-count [] = refl
  any-by-count (x ∷ l) =
      met-counted (p x) (count_by p l) (any_meets p l) (any-by-count l) ∙ ap (nat_lt 0) (sym (sum_by-cons (λ x. cond (p x) 1 0) x l))
