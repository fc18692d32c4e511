-- Keys of which no two are equal.
use Rattle.std.specs.Prelude.{◌≡◌, ℕ, ◌^◌, ◌<◌, Bool, false, List, [], ◌∷◌, length, map, refl}
use Rattle.std.specs.List.{AllByRecursion, IsDistinct}
use Rattle.std.specs.declared.cmp.Ordering.{Ordering}
use Rattle.std.proofs.Common.{sym, ◌∙◌, arith, true≢false}
use Rattle.std.proofs.lemmas.List.{length-map}
use Rattle.std.proofs.lemmas.Map.Made.{AllPairs-from_IsDistinct}
use Rattle.spliterator.specs.Values.{DecidesEquality}
use Rattle.spliterator.specs.Spliterator.{IsSoundFor}
use Rattle.sources.specs.HalvesLaws.{CountsItems}

-- ORDERED, NONNULL, IMMUTABLE, SIZED and SUBSIZED, as every counted source, and DISTINCT
-- java.util.Spliterator, its constants 0x10, 0x100, 0x400, 0x40, 0x4000 and 0x1; java.util.Set, spliterator
abbrev pub told_differing : ℕ
told_differing = 0x4551

-- a source of few items counts them, and always tells so
pub CountsItems-few : {S X C : Type 0} (kept : S → List X) (content : X → C) → ((s : S) → length (kept s) < 2 ^ 63)
    → CountsItems (λ s. map content (kept s)) (λ s. length (map content (kept s))) (λ s. length (map content (kept s))) (λ _. told_differing)
CountsItems-few kept content few = record {
  weighs = λ s. refl;
  estimates = λ s. omega (arith, length-map (kept s) content, few s);
  sized = λ s _. refl;
  subsized = λ s _. refl;
  sized_only = λ s _. omega (arith, length-map (kept s) content, few s);
  subsized_only = λ s _. omega (arith, length-map (kept s) content, few s);
}

-- contents that differ may be told to
pub IsSoundFor-differing : {C : Type 0} (order : C → C → Ordering) (same : C → C → Bool) → DecidesEquality same → (items : List C) → IsDistinct same items → IsSoundFor order told_differing items
IsSoundFor-differing order same decides items differ = record {
  distinct = λ _. AllPairs-from_IsDistinct decides items differ;
  sorted = λ h. absurd (true≢false (sym h));
}

module _ {K C : Type 0} (content : K → C) (eq : K → K → Bool) (same : C → C → Bool) (agree : (x y : K) → eq x y ≡ same (content x) (content y)) where
  others-differ : (k : K) (ks : List K) → AllByRecursion (λ y. eq k y ≡ false) ks → AllByRecursion (λ c. same (content k) c ≡ false) (map content ks)
  others-differ k [] differ = tt
  others-differ k (y ∷ ks) differ = (sym (agree k y) ∙ differ.0, others-differ k ks differ.1)

  -- keys that differ have contents that differ
  pub contents-differ : (ks : List K) → IsDistinct eq ks → IsDistinct same (map content ks)
  unfolding IsDistinct
  contents-differ [] differ = tt
  contents-differ (k ∷ ks) differ = (others-differ k ks differ.0, contents-differ ks differ.1)
