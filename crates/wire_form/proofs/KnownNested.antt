-- What a container of some values, made of other containers, is written as.
use Rattle.std.specs.Prelude.{◌≡◌, Bool, List, map, filter}
use Rattle.std.proofs.Common.{sym, ap, ◌∙◌}
use Rattle.std.proofs.lemmas.List.Elements.{All-map, All-filter, All-weaker}
use Rattle.serde_json.specs.Data.{Data}
use Rattle.collectors.specs.NestedLaws.{add_both, add_image, add_passing, fold-both, fold-image, fold-passing}
use Rattle.wire_form.specs.Forms.{IsFormOf, pair_form}
use Rattle.wire_form.specs.FormLaws.{pair-first, pair-second}

module _ {X A B C D : Type 0} (is_value : X → Type 0) (content : C → A) (content' : D → B) (empty : A) (empty' : B) (add : A → X → A) (add' : B → X → B) (form : C → Data) (form' : D → Data) (l : List X) where
  abbrev pub BothForm : Data → Type 0
  BothForm d = IsFormOf {X = X} {A = A × B} {C = C × D} is_value (λ p. (content p.0, content' p.1)) (empty, empty') (add_both empty add empty' add') (λ p. pair_form (form p.0) (form' p.1)) l d

  pub known-pair : (d : Data) → BothForm d → (a : Data) × (b : Data) × (pair_form a b ≡ d)
  known-pair d h = (form h.0.0, form' h.0.1, h.2)

  pub known-first : (x y d : Data) → pair_form x y ≡ d → BothForm d → IsFormOf is_value content empty add form l x
  known-first x y d e h = (h.0.0, (h.1.0, ap (λ p. p.0) (h.1.1 ∙ fold-both empty add empty' add' l)), pair-first (h.2 ∙ sym e))

  pub known-second : (x y d : Data) → pair_form x y ≡ d → BothForm d → IsFormOf is_value content' empty' add' form' l y
  known-second x y d e h = (h.0.1, (h.1.0, ap (λ p. p.1) (h.1.1 ∙ fold-both empty add empty' add' l)), pair-second (h.2 ∙ sym e))

module _ {X Y A C : Type 0} (is_value : X → Type 0) (is_value' : Y → Type 0) (image : X → Y) (values : (x : X) → is_value x → is_value' (image x)) (content : C → A) (empty : A) (add : A → Y → A) (form : C → Data) where
  pub known-images : (l : List X) (d : Data) → IsFormOf is_value content empty (add_image image empty add) form l d → IsFormOf is_value' content empty add form (map image l) d
  known-images l d h = (
    h.0,
    (All-map is_value' image l (All-weaker is_value (λ x. is_value' (image x)) values l h.1.0), h.1.1 ∙ fold-image image empty add l),
    h.2,
  )

module _ {X A C : Type 0} (is_value : X → Type 0) (test : X → Bool) (content : C → A) (empty : A) (add : A → X → A) (form : C → Data) where
  pub known-passing : (l : List X) (d : Data) → IsFormOf is_value content empty (add_passing test empty add) form l d → IsFormOf is_value content empty add form (filter test l) d
  known-passing l d h = (h.0, (All-filter test is_value l h.1.0, h.1.1 ∙ fold-passing test empty add l), h.2)
