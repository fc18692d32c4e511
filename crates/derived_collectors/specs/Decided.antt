-- A front in which an item has failed decides what the whole list gives.
use Rattle.std.specs.Prelude.{◌≤◌, ◌++◌, ◌∷◌, [], cond, List, Result, Ok, Err, count_by, map}
use Rattle.std.proofs.Common.{ap, subst, ◌∙◌, arith, append_assoc}
use Rattle.std.proofs.lemmas.List.Sums.{sum_by-cons}
use Rattle.derived_collectors.specs.Tried.{IsTried, has_failed}

-- no value has failed
none-failed : {X : Type 0} (E : Type 0) (values : List X) → 1 ≤ count_by (has_failed {X = X} {E = E}) (map {A = X} {B = Result X E} (λ x. Ok x) values) → ⊥
none-failed E [] enough = omega arith
none-failed {X} E (x ∷ values) enough =
    let count = sum_by-cons (λ (i : Result X E). cond (has_failed i) 1 0) (Ok x) (map {A = X} {B = Result X E} (λ x. Ok x) values) in
    none-failed E values (omega (arith, count))

module _ {X E : Type 0} where
  pub decided-tried : {O F : Type 0} (Gives : List X → O → Type 0) (content : F → E) (front more : List (Result X E)) (r : Result O F)
      → 1 ≤ count_by (has_failed {X = X} {E = E}) front → IsTried Gives content front r → IsTried Gives content (front ++ more) r
  decided-tried Gives content front more (Ok made) enough told =
      absurd (none-failed E told.0.0 (subst (λ (l : List (Result X E)). 1 ≤ count_by (has_failed {X = X} {E = E}) l) told.0.1 enough))
  decided-tried Gives content front more (Err failed) enough told = (
    tt,
    (
      told.1.0,
      told.1.1 ++ more,
      ap (λ l. l ++ more) told.1.2 ∙ append_assoc (map {A = X} {B = Result X E} (λ x. Ok x) told.1.0) (Err (content failed) ∷ told.1.1) more,
    ),
  )
