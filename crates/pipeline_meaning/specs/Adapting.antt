-- What comes before another collector: nothing, a mapping, or a filter.
use Rattle.std.specs.Prelude.{Bool, List, ◌≡◌, ⊤, fold, All, map, filter, refl, ℕ, ℤ, None}
use Rattle.collectors.specs.Laws.{CollectorLaws}
use Rattle.collectors.specs.NestedLaws.{add_image, add_passing, fold-image, fold-passing, mapping_laws, filtering_laws}
use Rattle.std.proofs.lemmas.List.Elements.{All-map, All-filter, All-weaker}
use Rattle.pipeline_meaning.specs.declared.{adapted.Adapting.Adapting, functions.NumberMapping.NumberMapping, functions.NumberCheck.NumberCheck, functions.NumberMerging.NumberMerging, functions.TextCheck.TextCheck}
use Rattle.pipeline_meaning.specs.declared.adapted.Adapting.TheVariants.{Nothing, Mapping, Filtering}
use Rattle.spliterator.specs.Values.{IsI64}
use Rattle.collectors.specs.Reductions.{reduce_add, reduce_merge, reduce_laws}
use Rattle.stream_functions.specs.declared.itself.Itself.{Itself}
use Rattle.pipeline_meaning.specs.Functions.{text_holds, mapping_image, check_holds, merging_join, mapping_image-value, merging_join-value, merging_join-associative}

-- the step's function may be called
abbrev pub AdaptedReady : {F P : Type 0} → (F → Type 0) → (P → Type 0) → Adapting F P → Type 0
AdaptedReady ready ready' Nothing = ⊤
AdaptedReady ready ready' (Mapping f) = ready f
AdaptedReady ready ready' (Filtering test) = ready' test

module _ {F P X : Type 0} (image : F → X → X) (holds : P → X → Bool) where
  -- the items that reach the other collector
  abbrev pub adapted_items : Adapting F P → List X → List X
  adapted_items Nothing l = l
  adapted_items (Mapping f) l = map (image f) l
  adapted_items (Filtering test) l = filter (holds test) l

  module _ {A : Type 0} (empty : A) (add : A → X → A) where
    -- one item is added as it is, by its image, or where it passes
    abbrev pub adapted_add : Adapting F P → A → X → A
    adapted_add Nothing = add
    adapted_add (Mapping f) = add_image (image f) empty add
    adapted_add (Filtering test) = add_passing (holds test) empty add

    pub adapted_laws : (is_value : X → Type 0) → ((f : F) (x : X) → is_value x → is_value (image f x)) → (merge : A → A → A) → CollectorLaws is_value empty add merge
        → (step : Adapting F P) → CollectorLaws is_value empty (adapted_add step) merge
    adapted_laws is_value values merge laws Nothing = laws
    adapted_laws is_value values merge laws (Mapping f) = mapping_laws (image f) empty add is_value is_value (values f) merge laws
    adapted_laws is_value values merge laws (Filtering test) = filtering_laws (holds test) empty add is_value merge laws

    pub fold-adapted : (step : Adapting F P) (l : List X) → fold (adapted_add step) empty l ≡ fold add empty (adapted_items step l)
    fold-adapted Nothing l = refl
    fold-adapted (Mapping f) l = fold-image (image f) empty add l
    fold-adapted (Filtering test) l = fold-passing (holds test) empty add l

    pub adapted_values : (is_value : X → Type 0) → ((f : F) (x : X) → is_value x → is_value (image f x)) → (step : Adapting F P) (l : List X) → All is_value l → All is_value (adapted_items step l)
    adapted_values is_value values Nothing l v = v
    adapted_values is_value values (Mapping f) l v = All-map is_value (image f) l (All-weaker is_value (λ x. is_value (image f x)) (values f) l v)
    adapted_values is_value values (Filtering test) l v = All-filter (holds test) is_value l v

-- The laws of the language's collectors, by name: what is joined by a function that is chosen, and what stands behind a mapping or a filter.

pub merging_laws : (merging : NumberMerging) → CollectorLaws IsI64 None (reduce_add (merging_join merging)) (reduce_merge (merging_join merging))
merging_laws merging = reduce_laws (merging_join merging) IsI64 (merging_join-value merging) (merging_join-associative merging)

-- the numbers, and the texts, that a step lets through
abbrev pub numbers_behind : Adapting NumberMapping NumberCheck → List ℤ → List ℤ
numbers_behind step l = adapted_items mapping_image check_holds step l

abbrev pub texts_behind : Adapting Itself TextCheck → List (List ℕ) → List (List ℕ)
texts_behind step l = adapted_items (λ _ x. x) (λ check. text_holds check.test) step l

module _ {A : Type 0} {empty : A} {merge : A → A → A} where
  pub numbers_behind_laws : {add : A → ℤ → A} → CollectorLaws IsI64 empty add merge → (step : Adapting NumberMapping NumberCheck)
      → CollectorLaws IsI64 empty (adapted_add mapping_image check_holds empty add step) merge
  numbers_behind_laws {add} laws step = adapted_laws mapping_image check_holds empty add IsI64 mapping_image-value merge laws step

  pub texts_behind_laws : {add : A → List ℕ → A} → CollectorLaws (λ _. ⊤) empty add merge → (step : Adapting Itself TextCheck)
      → CollectorLaws (λ _. ⊤) empty (adapted_add (λ _ x. x) (λ check. text_holds check.test) empty add step) merge
  texts_behind_laws {add} laws step = adapted_laws (λ _ x. x) (λ check. text_holds check.test) empty add (λ _. ⊤) (λ _ _ value. value) merge laws step
