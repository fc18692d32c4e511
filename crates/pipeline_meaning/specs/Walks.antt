-- One thing after another: stages over a list, and steps over an item.
use Rattle.stages.specs.declared.flags.Operation.{Operation}
use Rattle.stages.specs.declared.flags.Operation.TheVariants.{Map as map_row, FlatMap as flat_map_row}
use Rattle.std.proofs.Common.{ap, ◌∙◌, sym, subst, arith, append-nil, List, [], ◌∷◌, flat_map, ℕ, Bool, true, false, Option, None, ◌≡◌, ◌≤◌, ◌-◌, ◌+◌, ◌++◌, ◌&&◌, refl}
use Rattle.std.{proofs.Math.ListN.replicate, specs.declared.cmp.Ordering.Ordering, proofs.lemmas.List.replicate-append-replicate, proofs.Math.Bool.and-true, proofs.lemmas.List.Concat.flat_map-append, proofs.lemmas.List.Folds.list_all-append, proofs.lemmas.List.Sums.AllPass-from_list_all}
use Rattle.std.specs.List.{list_all, AllPass}
use Rattle.std.proofs.lemmas.List.Elements.{All-head, All-tail}
use Rattle.stages.specs.Flags.{KeepsSound, IsSound, after}
use Rattle.stages.specs.FlagLaws.{KeepsSound-map, KeepsSound-flat_map}
use Rattle.stages.specs.Passing.{flat_map-flat_map, flat_map-one}

abbrev pub one_after_other : {S L : Type 0} → (S → L → L) → List S → L → L
one_after_other stage [] items = items
one_after_other stage (first ∷ rest) items = one_after_other stage rest (stage first items)

-- the list that stands in the place of an item, behind all steps
abbrev pub images_after : {S A : Type 0} → (S → A → List A) → List S → A → List A
images_after images [] x = x ∷ []
images_after images (step ∷ rest) x = flat_map (images_after images rest) (images step x)

-- What steps tell of the items behind them: where each step is a map, what a map tells.

-- the row of the flags' table
abbrev pub row_of : Bool → Operation
row_of true = map_row
row_of false = flat_map_row

-- the number of items
abbrev pub size_of : Bool → Option ℕ → Option ℕ
size_of true size = size
size_of false size = None

-- Why a walk over prepared steps is what the stages make of a list.

-- the same images of each item
pub flat_map-same : {A B : Type 0} (f g : A → List B) → ((x : A) → f x ≡ g x) → (l : List A) → flat_map f l ≡ flat_map g l
flat_map-same f g h l = λ i. flat_map (λ x. h x i) l

-- images of copies
pub copies-all : {A B : Type 0} (f : A → List B) (i n : ℕ) (x : A) → i ≤ n → flat_map f (replicate i x) ++ flat_map f (replicate (n - i) x) ≡ flat_map f (replicate n x)
copies-all f i n x h =
    sym (flat_map-append f (replicate i x) (replicate (n - i) x)) ∙ ap (flat_map f) (replicate-append-replicate i (n - i) x)
    ∙ ap (λ k. flat_map f (replicate k x)) (let e : i + (n - i) ≡ n = omega arith in e)

-- Where each item has one image the row is that of a map, else of a flat map.
pub KeepsSound-images : {A : Type 0} (order : A → A → Ordering) (images : A → List A) (image : A → A) (b : Bool)
    → (b ≡ true → (x : A) → images x ≡ image x ∷ []) → KeepsSound order order (row_of b) (size_of b) (flat_map images)
KeepsSound-images {A} order images image true one = λ flags size items sound.
    let P : List A → Type 0 = λ l. IsSound order (after flags map_row) size l in
    subst P (sym (flat_map-same images (λ x. image x ∷ []) (one refl) items)) (KeepsSound-map order order image flags size items sound)
KeepsSound-images order images image false one = KeepsSound-flat_map order order images

module _ {S A : Type 0} (images : S → A → List A) where
  -- a step behind the others
  pub images-one-more : (steps : List S) (step : S) (x : A) → images_after images (steps ++ step ∷ []) x ≡ flat_map (images step) (images_after images steps x)
  images-one-more [] step x = flat_map-one (images step x) ∙ sym (append-nil (images step x))
  images-one-more (first ∷ steps) step x =
      flat_map-same (images_after images (steps ++ step ∷ [])) (λ y. flat_map (images step) (images_after images steps y)) (images-one-more steps step) (images first x)
      ∙ sym (flat_map-flat_map (images_after images steps) (images step) (images first x))

  all-one-more : (steps : List S) (step : S) (l : List A)
      → flat_map (images_after images (steps ++ step ∷ [])) l ≡ flat_map (images step) (flat_map (images_after images steps) l)
  all-one-more steps step l =
      flat_map-same (images_after images (steps ++ step ∷ [])) (λ y. flat_map (images step) (images_after images steps y)) (images-one-more steps step) l
      ∙ sym (flat_map-flat_map (images_after images steps) (images step) l)

  -- Where all steps are maps, a number has one image.
  pub one-image : (is_map : S → Bool) (image : S → A → A) → ((step : S) → is_map step ≡ true → (x : A) → images step x ≡ image step x ∷ [])
      → (steps : List S) → AllPass is_map steps → (x : A) → images_after images steps x ≡ one_after_other image steps x ∷ []
  one-image is_map image one [] h x = refl
  one-image is_map image one (step ∷ steps) h x =
      let P : S → Type 0 = λ s. is_map s ≡ true in
      ap (flat_map (images_after images steps)) (one step (All-head P step steps h) x)
      ∙ append-nil (images_after images steps (image step x)) ∙ one-image is_map image one steps (All-tail P step steps h) (image step x)

  pub KeepsSound-walk : (order : A → A → Ordering) (is_map : S → Bool) (image : S → A → A) → ((step : S) → is_map step ≡ true → (x : A) → images step x ≡ image step x ∷ [])
      → (steps : List S) → KeepsSound order order (row_of (list_all is_map steps)) (size_of (list_all is_map steps)) (flat_map (images_after images steps))
  KeepsSound-walk order is_map image one steps =
      KeepsSound-images order (images_after images steps) (one_after_other image steps) (list_all is_map steps)
      (λ all. one-image is_map image one steps (AllPass-from_list_all is_map steps all))

  module _ {G : Type 0} (stage : G → List A → List A) (is_map : S → Bool) (is_stage_map : G → Bool) where
    abbrev pub IsStep : S → G → Type 0
    IsStep step last = ((l : List A) → flat_map (images step) l ≡ stage last l) × (is_map step ≡ is_stage_map last)

    -- the steps with a stage behind them
    abbrev pub StepFollows : G → List S → List S → Type 0
    StepFollows last old new =
        ((l : List A) → flat_map (images_after images new) l ≡ stage last (flat_map (images_after images old) l))
        × (list_all is_map new ≡ (list_all is_map old && is_stage_map last))

    -- a step behind the others is a stage behind them
    pub step-follows : (old new : List S) (step : S) (last : G) → new ≡ old ++ step ∷ [] → IsStep step last → StepFollows last old new
    step-follows old new step last more is = (
      λ l. ap (λ s. flat_map (images_after images s) l) more ∙ all-one-more old step l ∙ is.0 (flat_map (images_after images old) l),
      ap (list_all is_map) more ∙ list_all-append is_map old (step ∷ []) ∙ ap (λ b. list_all is_map old && b) (and-true (is_map step) ∙ is.1),
    )

  -- no step changes nothing
  pub no-steps : (steps : List S) → steps ≡ [] → (l : List A) → flat_map (images_after images steps) l ≡ l
  no-steps steps none l = ap (λ s. flat_map (images_after images s) l) none ∙ flat_map-one l

pub stages-one-more : {G A : Type 0} (stage : G → A → A) (earlier : List G) (last : G) (items : A)
    → one_after_other stage (earlier ++ last ∷ []) items ≡ stage last (one_after_other stage earlier items)
stages-one-more stage [] last items = refl
stages-one-more stage (first ∷ earlier) last items = stages-one-more stage earlier last (stage first items)
