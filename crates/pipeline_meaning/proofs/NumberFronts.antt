-- Copies of each member of a list, past a map and a filter, all at once and in parts.
use Rattle.std.proofs.Common.{ap, ap₂, ◌∙◌, sym, arith, append-nil, subst, ◌≡◌, ◌≤◌, ◌-◌, ℕ, zero, suc, ℤ, Bool, true, false, cond, List, [], ◌∷◌, ◌++◌, map, filter, flat_map, length, refl}
use Rattle.std.{proofs.Math.ListN.replicate, proofs.lemmas.List.map-append, proofs.lemmas.List.Concat.flat_map-append, proofs.lemmas.List.Elements.filter-append}
use Rattle.stages.specs.Passing.{flat_map-flat_map, flat_map-one}
use Rattle.pipeline_meaning.specs.NumberSteps.{steps_images, number_step_images, is_map_step}
use Rattle.pipeline_meaning.specs.Walks.{copies-all, IsStep}
use Rattle.pipeline_meaning.specs.declared.{number_steps.NumberStep.NumberStep, functions.NumberMapping.NumberMapping, functions.NumberMapping.TheVariants.Itself, functions.NumberCheck.NumberCheck}
use Rattle.pipeline_meaning.specs.Functions.{mapping_image, number_image, number_holds, check_holds}
use Rattle.pipeline_language.specs.{declared.pipeline.NumberFunction.NumberFunction, declared.grammar.NumberTest.NumberTest, Content.NumberStage}
use Rattle.pipeline_meaning.specs.Stages.{number_stage, is_map_stage}
use Rattle.stream_functions.specs.Lists.{map-flat_map, filter-flat_map}
use Rattle.pipeline_meaning.specs.declared.number_steps.NumberStep.TheVariants.{Map, Filter}
use Rattle.pipeline_language.specs.declared.grammar.Stage.TheVariants as stages

pub map-copy : {X Y : Type 0} (f : X → Y) (k : ℕ) (x : X) → map f (replicate k x) ≡ replicate k (f x)
map-copy f zero x = refl
map-copy f (suc k) x = ap (λ l. f x ∷ l) (map-copy f k x)

filter-copy : {X : Type 0} (p : X → Bool) (k : ℕ) (x : X) (b : Bool) → p x ≡ b → filter p (replicate k x) ≡ cond b (replicate k x) []
filter-copy p zero x true is = refl
filter-copy p zero x false is = refl
filter-copy p (suc k) x true is = ap (λ b. cond b (x ∷ filter p (replicate k x)) (filter p (replicate k x))) is ∙ ap (λ l. x ∷ l) (filter-copy p k x true is)
filter-copy p (suc k) x false is = ap (λ b. cond b (x ∷ filter p (replicate k x)) (filter p (replicate k x))) is ∙ filter-copy p k x false is

pub copies-map : {X Y : Type 0} (f : X → Y) (k : ℕ) (l : List X) → map f (flat_map (replicate k) l) ≡ flat_map (replicate k) (map f l)
copies-map f k [] = refl
copies-map f k (x ∷ l) = map-append f (replicate k x) (flat_map (replicate k) l) ∙ ap₂ (λ a b. a ++ b) (map-copy f k x) (copies-map f k l)

pub copies-filter : {X : Type 0} (p : X → Bool) (k : ℕ) (l : List X) → filter p (flat_map (replicate k) l) ≡ flat_map (replicate k) (filter p l)
copies-filter p k [] = refl
copies-filter {X} p k (x ∷ l) = filter-append p (replicate k x) (flat_map (replicate k) l) ∙ ap (λ r. filter p (replicate k x) ++ r) (copies-filter p k l) ∙ first (p x) refl
  where
    kept : List X
    kept = filter p l

    first : (b : Bool) → p x ≡ b → filter p (replicate k x) ++ flat_map (replicate k) (filter p l) ≡ flat_map (replicate k) (cond b (x ∷ filter p l) (filter p l))
    first true is = ap (λ r. r ++ flat_map (replicate k) (filter p l)) (filter-copy p k x true is)
    first false is = ap (λ r. r ++ flat_map (replicate k) (filter p l)) (filter-copy p k x false is)

-- Steps over a block.

pub no-steps-left : (steps : List NumberStep) (l : List ℤ) → length steps ≡ 0 → l ≡ flat_map (steps_images steps) l
no-steps-left [] l e = sym (flat_map-one l)
no-steps-left (step ∷ steps) l e = absurd (omega arith)

-- what the later steps make of what the first one made
pub first-step : (steps later : List NumberStep) (step first : NumberStep) (l made : List ℤ) → steps ≡ step ∷ later → step ≡ first → made ≡ flat_map (number_step_images first) l
    → flat_map (steps_images later) made ≡ flat_map (steps_images steps) l
first-step steps later step first l made here is by_first =
    ap (flat_map (steps_images later)) (by_first ∙ ap (λ s. flat_map (number_step_images s) l) (sym is))
    ∙ flat_map-flat_map (number_step_images step) (steps_images later) l ∙ ap (λ s. flat_map (steps_images s) l) (sym here)

pub part-and-rest : (later : List NumberStep) (n : ℕ) (left part rest : List ℤ) → left ≡ part ++ rest
    → flat_map (steps_images later) (flat_map (replicate n) part) ++ flat_map (steps_images later) (flat_map (replicate n) rest) ≡ flat_map (steps_images later) (flat_map (replicate n) left)
part-and-rest later n left part rest is =
    sym (flat_map-append (steps_images later) (flat_map (replicate n) part) (flat_map (replicate n) rest))
    ∙ ap (flat_map (steps_images later)) (sym (flat_map-append (replicate n) part rest) ∙ ap (flat_map (replicate n)) (sym is))

pub some-and-rest : (later : List NumberStep) (left part : ℕ) (x : ℤ) → part ≤ left
    → flat_map (steps_images later) (flat_map (replicate part) (x ∷ [])) ++ flat_map (steps_images later) (replicate (left - part) x) ≡ flat_map (steps_images later) (replicate left x)
some-and-rest later left part x within =
    ap (λ l. flat_map (steps_images later) l ++ flat_map (steps_images later) (replicate (left - part) x)) (append-nil (replicate part x)) ∙ copies-all (steps_images later) part left x within

-- the mapping that changes no number
pub itself-all : (m : NumberMapping) (l : List ℤ) → m ≡ Itself → l ≡ flat_map (λ x. mapping_image m x ∷ []) l
itself-all m l is = sym (flat_map-one l) ∙ ap (λ m. flat_map (λ x. mapping_image m x ∷ []) l) (sym is)

-- a prepared map or filter is its stage
pub map-step : (stage : NumberStage) (f : NumberFunction) (m : NumberMapping) → stage ≡ stages.Map f → mapping_image m ≡ number_image f
    → IsStep number_step_images number_stage is_map_step is_map_stage (Map m) stage
map-step stage f m is image =
    let P : NumberStage → Type 0 = λ s. IsStep number_step_images number_stage is_map_step is_map_stage (Map m) s in
    subst P (sym is) ((λ l. ap (λ (g : ℤ → ℤ). flat_map (λ x. g x ∷ []) l) image ∙ sym (map-flat_map (number_image f) l)), refl)

pub filter-step : (stage : NumberStage) (p : NumberTest) (k : NumberCheck) → stage ≡ stages.Filter p → check_holds k ≡ number_holds p
    → IsStep number_step_images number_stage is_map_step is_map_stage (Filter k) stage
filter-step stage p k is holds =
    let P : NumberStage → Type 0 = λ s. IsStep number_step_images number_stage is_map_step is_map_stage (Filter k) s in
    subst P (sym is) ((λ l. ap (λ (h : ℤ → Bool). flat_map (λ x. cond (h x) (x ∷ []) []) l) holds ∙ sym (filter-flat_map (number_holds p) l)), refl)
