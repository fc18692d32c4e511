-- Prepared stages over texts, and words of texts.
use Rattle.std.specs.Prelude.{◌≡◌, ◌<◌, ◌≤◌, ℕ, List, Option, Some, None, IfSome, filter, length, refl}
use Rattle.std.proofs.Common.{Bor, arith, ap, sym, subst, ◌∙◌}
use Rattle.std.proofs.lemmas.List.{map-id}
use Rattle.file_words.specs.Words as words
use Rattle.pipeline_language.specs.Content.{TextStage, TextTest}
use Rattle.pipeline_language.specs.declared.grammar.Stage.TheVariants as stages
use Rattle.pipeline_meaning.specs.{Functions.text_holds, declared.functions.TextCheck.TextCheck}
use Rattle.pipeline_meaning.specs.Stages.{text_stage, is_map_stage}
use Rattle.pipeline_meaning.specs.TextSteps.{text_step_images, is_map_step, letters_left, words_left}
use Rattle.stages.specs.Passing.{flat_map-one}
use Rattle.stream_functions.specs.Lists.{filter-flat_map}
use Rattle.pipeline_meaning.specs.Walks.{IsStep}
use Rattle.pipeline_meaning.specs.declared.text_steps.TextStep.TheVariants.{Itself, Filter}

-- what is left behind a word
pub same-left : (left : Option (Bor (List ℕ))) → words.words_left left ≡ words_left (λ text. text.now) left
same-left None = refl
same-left (Some text) = refl

pub shorter-left : (left : Option (Bor (List ℕ))) (n : ℕ) → IfSome left (λ text. length text.now < n) → letters_left (λ (text : Bor (List ℕ)). text.now) left ≤ n
shorter-left None n shorter = omega arith
shorter-left (Some text) n shorter = omega (arith, shorter)

-- a prepared map or filter is its stage
pub itself-step : (stage : TextStage) → stage ≡ stages.Map tt → IsStep text_step_images text_stage is_map_step is_map_stage Itself stage
itself-step stage is =
    let P : TextStage → Type 0 = λ s. IsStep text_step_images text_stage is_map_step is_map_stage Itself s in
    subst P (sym is) ((λ l. flat_map-one l ∙ sym (map-id l)), refl)

pub filter-step : (stage : TextStage) (p : TextTest) (k : TextCheck) → stage ≡ stages.Filter p → k.test ≡ p
    → IsStep text_step_images text_stage is_map_step is_map_stage (Filter k) stage
filter-step stage p k is e =
    let P : TextStage → Type 0 = λ s. IsStep text_step_images text_stage is_map_step is_map_stage (Filter k) s in
    subst P (sym is) ((λ l. sym (filter-flat_map (text_holds k.test) l) ∙ ap (λ (q : TextTest). filter (text_holds q) l) e), refl)
