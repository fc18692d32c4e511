-- What prepared steps over numbers give.
use Rattle.std.{proofs.Math.ListN.replicate, specs.List.list_all, specs.declared.cmp.Ordering.Ordering}
use Rattle.std.proofs.Common.{sym, true≢false, ◌≡◌, ℤ, Bool, true, false, cond, List, [], ◌∷◌, flat_map, refl}
use Rattle.stages.specs.Flags.{KeepsSound}
use Rattle.pipeline_language.specs.Content.{NumberStage}
use Rattle.pipeline_meaning.specs.Functions.{mapping_image, check_holds}
use Rattle.pipeline_meaning.specs.Walks.{row_of, size_of, images_after, StepFollows, KeepsSound-walk}
use Rattle.pipeline_meaning.specs.Stages.{number_stage, is_map_stage}
use Rattle.pipeline_meaning.specs.declared.number_steps.{NumberStep.NumberStep, NumberSteps.NumberSteps}
use Rattle.pipeline_meaning.specs.declared.number_steps.NumberStep.TheVariants.{Map, Filter, Repeat}

-- the list that stands in the place of a number
abbrev pub number_step_images : NumberStep → ℤ → List ℤ
number_step_images (Map f) x = mapping_image f x ∷ []
number_step_images (Filter p) x = cond (check_holds p x) (x ∷ []) []
number_step_images (Repeat n) x = replicate n x

abbrev pub steps_images : List NumberStep → ℤ → List ℤ
steps_images steps x = images_after number_step_images steps x

abbrev pub number_images : NumberSteps → ℤ → List ℤ
number_images s x = steps_images s.steps.items x

abbrev pub is_map_step : NumberStep → Bool
is_map_step (Map f) = true
is_map_step _ = false

abbrev pub only_maps : NumberSteps → Bool
only_maps s = list_all is_map_step s.steps.items

-- the steps with a stage behind them
abbrev pub Follows : NumberStage → NumberSteps → NumberSteps → Type 0
Follows stage old new = StepFollows number_step_images number_stage is_map_step is_map_stage stage old.steps.items new.steps.items

abbrev map_image : NumberStep → ℤ → ℤ
map_image (Map f) x = mapping_image f x
map_image _ x = x

map-one : (step : NumberStep) → is_map_step step ≡ true → (x : ℤ) → number_step_images step x ≡ map_image step x ∷ []
map-one (Map f) h x = refl
map-one (Filter p) h x = absurd (true≢false (sym h))
map-one (Repeat n) h x = absurd (true≢false (sym h))

pub KeepsSound-number_steps : (order : ℤ → ℤ → Ordering) (s : NumberSteps) → KeepsSound order order (row_of (only_maps s)) (size_of (only_maps s)) (flat_map (number_images s))
KeepsSound-number_steps order s = KeepsSound-walk number_step_images order is_map_step map_image map-one s.steps.items
