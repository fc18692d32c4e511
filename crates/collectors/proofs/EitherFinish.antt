-- The result of a collector of one of two types, by its side and its container's.
use Rattle.std.proofs.Common.{◌≡◌, List, All, Option, Some, None, option_map, fold, sym, ap, subst, ◌∙◌}
use Rattle.either.specs.Either.{left, right}
use Rattle.either.specs.declared.Either.{Either}
use Rattle.either.specs.declared.Either.TheVariants.{Left, Right}
use Rattle.collectors.specs.Either.{either_content, either_empty, either_add, either_gives, fold-left, fold-right}

left-same : {A B : Type 0} {a b : A} → ◌≡◌ {A = Option (Either A B)} (Some (Left a)) (Some (Left b)) → a ≡ b
left-same h = cc

right-same : {A B : Type 0} {a b : B} → ◌≡◌ {A = Option (Either A B)} (Some (Right a)) (Some (Right b)) → a ≡ b
right-same h = cc

none-some : {X P : Type 0} {x : X} → ◌≡◌ {A = Option X} None (Some x) → P
none-some h = absurd (cc)

module _ {C D R S L M X A B : Type 0} (is_value : X → Type 0) (content : C → R → A) (content' : D → S → B) (empty : C → A) (empty' : D → B)
    (add : C → A → X → A) (add' : D → B → X → B) (gives : C → List X → L → Type 0) (gives' : D → List X → M → Type 0) where
  -- the container stands for the list
  abbrev Holds : Either C D → Either R S → List X → Type 0
  Holds e acc l = either_content content content' e acc ≡ fold (either_add add add' e) (either_empty empty empty' e) l

  -- the value is a result on each list that the container stands for
  abbrev Finishes : Either C D → Either R S → Either L M → Type 0
  Finishes e acc made = (l : List X) → All is_value l → Holds e acc l → either_gives gives gives' e l made

  left-of : (c : C) (acc : Either R S) (a : A) → either_content content content' (Left c) acc ≡ Some (Left a) → option_map (content c) (left acc) ≡ Some a
  left-of c (Left r) a h = ap Some (left-same h)
  left-of c (Right s) a h = none-some h

  right-of : (d : D) (acc : Either R S) (b : B) → either_content content content' (Right d) acc ≡ Some (Right b) → option_map (content' d) (right acc) ≡ Some b
  right-of d (Left r) b h = none-some h
  right-of d (Right s) b h = ap Some (right-same h)

  pub on-left : (e : Either C D) (acc : Either R S) (c : C) (o : Option R) (made : L) → e ≡ Left c → o ≡ left acc
      → ((l : List X) → All is_value l → option_map (content c) o ≡ Some (fold (add c) (empty c) l) → gives c l made) → Finishes e acc (Left made)
  on-left e acc c o made same is f =
      subst (λ e. Finishes e acc (Left made)) (sym same)
      (λ l v h.
      f l v (ap (option_map (content c)) is ∙ left-of c acc (fold (add c) (empty c) l) (h ∙ fold-left is_value empty empty' add add' c (empty c) l)))

  pub on-right : (e : Either C D) (acc : Either R S) (d : D) (o : Option S) (made : M) → e ≡ Right d → o ≡ right acc
      → ((l : List X) → All is_value l → option_map (content' d) o ≡ Some (fold (add' d) (empty' d) l) → gives' d l made) → Finishes e acc (Right made)
  on-right e acc d o made same is f =
      subst (λ e. Finishes e acc (Right made)) (sym same)
      (λ l v h.
      f l v (ap (option_map (content' d)) is ∙ right-of d acc (fold (add' d) (empty' d) l) (h ∙ fold-right is_value empty empty' add add' d (empty' d) l)))
