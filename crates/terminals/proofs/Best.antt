-- What is joined by the lesser or the greater of two is the first of the best.
use Rattle.std.specs.Prelude.{◌≡◌, Bool, cond, List, [], ◌∷◌, fold, Option, Some, refl}
use Rattle.std.proofs.Common.{ap, sym, subst, ◌∙◌}
use Rattle.std.proofs.lemmas.List.MinMax.{IsFirstBest-from_best_of}
use Rattle.std.proofs.lemmas.Option.{slice_get-get_or}
use Rattle.std.specs.Cmp.{IsTotalOrder, IsStrictWeakOrder}
use Rattle.std.specs.List.{best_of}
use Rattle.std.specs.Ordering.{is_gt, is_lt, ordering_reverse}
use Rattle.std.specs.declared.cmp.Ordering.{Ordering}
use Rattle.std.specs.declared.cmp.Ordering.TheVariants.{Less, Equal, Greater}
use Rattle.stages.specs.Choices.{larger, smaller}
use Rattle.collectors.specs.Reductions.{reduced}
use Rattle.derived_collectors.specs.FirstBest.{IsFirstBestBy, is_better, better-ranks}
use Rattle.derived_collectors.specs.declared.best.Best.TheVariants.{Least, Greatest}

module _ {C : Type 0} (beats : C → C → Bool) (ranks : IsStrictWeakOrder beats) (join : C → C → C) (joins : (a x : C) → join a x ≡ cond (beats x a) x a) where
  fold-best : (a : C) (l : List C) → fold join a l ≡ best_of beats a l
  fold-best a [] = refl
  fold-best a (x ∷ l) = fold-best (join a x) l ∙ ap (λ b. best_of beats b l) (joins a x)

  best-reduced : (l : List C) → IsFirstBestBy beats (λ x. x) l (reduced join l)
  best-reduced [] = refl
  best-reduced (a ∷ l) =
      let best = IsFirstBest-from_best_of ranks a l in
      (best.0, best.1, slice_get-get_or (a ∷ l) best.0 a best.1.0 ∙ ap Some (best.2 ∙ sym (fold-best a l)))

  -- what has the content of that
  pub best : (l : List C) (o : Option C) → o ≡ reduced join l → IsFirstBestBy beats (λ x. x) l o
  best l o made = subst (IsFirstBestBy beats (λ x. x) l) (sym made) (best-reduced l)

above-reversed : (o : Ordering) → is_gt (ordering_reverse o) ≡ is_lt o
above-reversed Less = refl
above-reversed Equal = refl
above-reversed Greater = refl

module _ {C : Type 0} (order : C → C → Ordering) (total : IsTotalOrder order) where
  pub least : (l : List C) (o : Option C) → o ≡ reduced (smaller order) l → IsFirstBestBy (is_better Least order) (λ x. x) l o
  least =
      best (is_better Least order) (better-ranks Least order total) (smaller order)
      (λ a x. ap (λ b. cond b x a) (ap is_gt (total.antisymm a x) ∙ above-reversed (order x a)))

  pub greatest : (l : List C) (o : Option C) → o ≡ reduced (larger order) l → IsFirstBestBy (is_better Greatest order) (λ x. x) l o
  greatest = best (is_better Greatest order) (better-ranks Greatest order total) (larger order) (λ a x. refl)
