-- Lists that make the same difference to a barrier.
use Rattle.std.specs.Prelude.{◌≡◌, ℕ, Bool, List, [], ◌++◌, Option, Some, None, count_by, refl}
use Rattle.std.proofs.Common.{ap, ap₂, ◌∙◌, sym, subst, append_assoc}
use Rattle.barriers.specs.Needs.{IsToldBy, less_needed}

-- What is kept of a list makes the difference that the list makes, whatever stands before it and behind it. Where a number of items is needed, all is kept.
abbrev pub IsThinned : {C : Type 0} → Option ℕ → (List C → List C) → List C → List C → Type 0
IsThinned None value whole kept = (before more : List _) → value (before ++ (whole ++ more)) ≡ value (before ++ (kept ++ more))
IsThinned (Some n) value whole kept = kept ≡ whole

module _ {C : Type 0} (value : List C → List C) where
  pub thinned-both : (needed : Option ℕ) (l m kept following : List C) → IsThinned needed value l kept → IsThinned needed value m following → IsThinned needed value (l ++ m) (kept ++ following)
  thinned-both None l m kept following first second = λ before more.
      ap (λ r. value (before ++ r)) (append_assoc l m more)
      ∙ first before (m ++ more)
      ∙ ap value (sym (append_assoc before kept (m ++ more)))
      ∙ second (before ++ kept) more
      ∙ ap value (append_assoc before kept (following ++ more))
      ∙ ap (λ r. value (before ++ r)) (sym (append_assoc kept following more))
  thinned-both (Some n) l m kept following first second = ap₂ (λ a b. a ++ b) first second

  pub thinned-behind : (needed : Option ℕ) (whole kept more : List C) → IsThinned needed value whole kept → value (whole ++ more) ≡ value (kept ++ more)
  thinned-behind None whole kept more thinned = thinned [] more
  thinned-behind (Some n) whole kept more same = ap (λ l. value (l ++ more)) (sym same)

  -- what a run's cut tells of a list, it tells of what is kept of it
  pub thinned-told : (needed : Option ℕ) (counted : C → Bool) (whole kept : List C) (is_cut : Bool) → IsThinned needed value whole kept → IsToldBy needed counted whole is_cut → IsToldBy needed counted kept is_cut
  thinned-told None counted whole kept is_cut thinned told = record {
    none = λ uncut one. absurd cc;
    some = λ cut one. absurd cc;
    last = λ one n within. absurd cc;
  }
  thinned-told (Some n) counted whole kept is_cut same told = subst (λ l. IsToldBy (Some n) counted l is_cut) (sym same) told

  -- nor does it matter to how many are still needed
  pub thinned-less : (needed : Option ℕ) (counted : C → Bool) (whole kept : List C) → IsThinned needed value whole kept → less_needed needed (count_by counted kept) ≡ less_needed needed (count_by counted whole)
  thinned-less None counted whole kept thinned = refl
  thinned-less (Some n) counted whole kept same = ap (λ l. less_needed (Some n) (count_by counted l)) same
