-- Operations that leave a list as it is.
use Rattle.std.specs.Prelude.{◌≡◌, ◌≢◌, ◌||◌, Bool, false, cond, suc, All, List, [], ◌∷◌, ◌++◌, refl}
use Rattle.std.specs.List.{AllPairs, list_any, slice_index_or}
use Rattle.std.proofs.Common.{ap, ap₂, ◌∙◌, sym, arith}
use Rattle.std.proofs.lemmas.List.Folds.{list_any-append}
use Rattle.spliterator.specs.Values.{DecidesEquality}
use Rattle.stages.specs.Tests.{either}
use Rattle.stages.specs.Distinct.{distinct, distinct_after}

-- Distinct items stay as they are.
module _ {X : Type 0} (same : X → X → Bool) (decides : DecidesEquality same) where
  abbrev among : X → List X → Bool
  among x l = list_any (same x) l

  among-more : (earlier : List X) (x y : X) → among y earlier ≡ false → x ≢ y → among y (earlier ++ x ∷ []) ≡ false
  among-more earlier x y none apart =
      let other : same y x ≡ false = either (same y x) (λ e. absurd (apart (sym ((decides y x).0 e)))) (λ e. e) in
      list_any-append (same y) earlier (x ∷ []) ∙ ap₂ (λ a b. a || (b || false)) none other

  distinct_after-stays : (earlier l : List X) → All (λ y. among y earlier ≡ false) l → AllPairs (λ c d. c ≢ d) l → distinct_after same earlier l ≡ l
  distinct_after-stays earlier [] new apart = refl
  distinct_after-stays earlier (x ∷ l) new apart =
      let later : All (λ y. among y (earlier ++ x ∷ []) ≡ false) l =
      λ k d within. among-more earlier x (slice_index_or l k d) (new (suc k) d (omega arith)) (apart 0 (suc k) d (omega arith) (omega arith)) in
      let rest : distinct_after same (earlier ++ x ∷ []) l ≡ l =
      distinct_after-stays (earlier ++ x ∷ []) l later (λ i j d before within. apart (suc i) (suc j) d (omega arith) (omega arith)) in
      ap (λ b. cond b (distinct_after same (earlier ++ x ∷ []) l) (x ∷ distinct_after same (earlier ++ x ∷ []) l)) (new 0 x (omega arith))
      ∙ ap (λ s. x ∷ s) rest

  -- distinct, of items no two of which are equal: nothing is to be done
  pub distinct-stays : (l : List X) → AllPairs (λ c d. c ≢ d) l → distinct same l ≡ l
  distinct-stays l apart = distinct_after-stays [] l (λ k d within. refl) apart
