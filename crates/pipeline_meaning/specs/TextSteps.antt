-- What prepared steps over texts give.
use Rattle.std.{proofs.Math.ListN.replicate, specs.List.list_all, specs.declared.cmp.Ordering.Ordering}
use Rattle.std.proofs.Common.{sym, true≢false, ◌≡◌, ◌<◌, ◌+◌, ℕ, Bool, true, false, cond, List, [], ◌∷◌, Option, None, Some, flat_map, length, refl}
use Rattle.stages.specs.Flags.{KeepsSound}
use Rattle.file_words.specs.Words.{words_of}
use Rattle.pipeline_language.specs.Content.{TextStage}
use Rattle.pipeline_meaning.specs.{Functions.text_holds, declared.text_steps.TextStep.TextStep, declared.text_steps.TextSteps.TextSteps, declared.text_steps.Walked.Walked}
use Rattle.pipeline_meaning.specs.Walks.{row_of, size_of, images_after, StepFollows, KeepsSound-walk}
use Rattle.pipeline_meaning.specs.Stages.{text_stage, is_map_stage}
use Rattle.pipeline_meaning.specs.declared.text_steps.TextStep.TheVariants.{Itself, Filter, Repeat, Words}
use Rattle.pipeline_meaning.specs.declared.text_steps.Walked.TheVariants.{Passed, Dropped, Copied, Cut}

-- the list that stands in the place of a text
abbrev pub text_step_images : TextStep → List ℕ → List (List ℕ)
text_step_images Itself text = text ∷ []
text_step_images (Filter check) text = cond (text_holds check.test text) (text ∷ []) []
text_step_images (Repeat n) text = replicate n text
text_step_images Words text = words_of text

abbrev pub text_images : List TextStep → List ℕ → List (List ℕ)
text_images steps text = images_after text_step_images steps text

-- what is to come of a text that has walked
abbrev pub walked_images : List ℕ → Walked → List (List ℕ)
walked_images text Passed = text ∷ []
walked_images text Dropped = []
walked_images text (Copied n rest) = flat_map (text_images rest.now) (replicate n text)
walked_images text (Cut rest) = flat_map (text_images rest.now) (words_of text)

abbrev pub IsFewer : Walked → ℕ → Type 0
IsFewer Passed n = Unit {0}
IsFewer Dropped n = Unit {0}
IsFewer (Copied m rest) n = length rest.now < n
IsFewer (Cut rest) n = length rest.now < n

-- the words that are left, and how much there is to cut
abbrev pub words_left : {T : Type 0} → (T → List ℕ) → Option T → List (List ℕ)
words_left content None = []
words_left content (Some text) = words_of (content text)

abbrev pub letters_left : {T : Type 0} → (T → List ℕ) → Option T → ℕ
letters_left content None = 0
letters_left content (Some text) = length (content text) + 1

abbrev pub is_map_step : TextStep → Bool
is_map_step Itself = true
is_map_step _ = false

abbrev pub only_maps : List TextStep → Bool
only_maps steps = list_all is_map_step steps

-- the steps with a stage behind them
abbrev pub Follows : TextStage → TextSteps → TextSteps → Type 0
Follows stage old new = StepFollows text_step_images text_stage is_map_step is_map_stage stage old.steps.items new.steps.items

map-one : (step : TextStep) → is_map_step step ≡ true → (text : List ℕ) → text_step_images step text ≡ text ∷ []
map-one Itself h text = refl
map-one (Filter check) h text = absurd (true≢false (sym h))
map-one (Repeat n) h text = absurd (true≢false (sym h))
map-one Words h text = absurd (true≢false (sym h))

pub KeepsSound-text_steps : (order : List ℕ → List ℕ → Ordering) (steps : List TextStep) → KeepsSound order order (row_of (only_maps steps)) (size_of (only_maps steps)) (flat_map (text_images steps))
KeepsSound-text_steps order steps = KeepsSound-walk text_step_images order is_map_step (λ _ text. text) map-one steps
