-- A collector of one of two types. A container is seen on the collector's own side; one of the other side, which no run makes, is
-- seen as nothing, and stays as it is.
use Rattle.std.specs.Prelude.{◌≡◌, List, [], ◌∷◌, fold, refl, Option, Some, None}
use Rattle.std.proofs.Common.{ap, ap₂, sym, ◌∙◌}
use Rattle.either.specs.declared.Either.{Either}
use Rattle.either.specs.declared.Either.TheVariants.{Left, Right}
use Rattle.collectors.specs.Laws.{CollectorLaws}

module _ {C D : Type 0} where
  -- the container's content, where it is of the collector's side
  abbrev pub either_content : {R S A B : Type 0} → (C → R → A) → (D → S → B) → Either C D → Either R S → Option (Either A B)
  either_content lefts rights (Left c) (Left acc) = Some (Left (lefts c acc))
  either_content lefts rights (Right d) (Right acc) = Some (Right (rights d acc))
  either_content lefts rights _ _ = None

  module _ {A B : Type 0} where
    -- the content of a new container
    abbrev pub either_empty : (C → A) → (D → B) → Either C D → Option (Either A B)
    either_empty lefts rights (Left c) = Some (Left (lefts c))
    either_empty lefts rights (Right d) = Some (Right (rights d))

    -- an item is added on the collector's side
    abbrev pub either_add : {X : Type 0} → (C → A → X → A) → (D → B → X → B) → Either C D → Option (Either A B) → X → Option (Either A B)
    either_add lefts rights (Left c) (Some (Left a)) x = Some (Left (lefts c a x))
    either_add lefts rights (Right d) (Some (Right b)) x = Some (Right (rights d b x))
    either_add lefts rights _ content x = content

    -- the containers are merged on the collector's side
    abbrev pub either_merge : (C → A → A → A) → (D → B → B → B) → Either C D → Option (Either A B) → Option (Either A B) → Option (Either A B)
    either_merge lefts rights (Left c) (Some (Left a)) (Some (Left b)) = Some (Left (lefts c a b))
    either_merge lefts rights (Right d) (Some (Right a)) (Some (Right b)) = Some (Right (rights d a b))
    either_merge lefts rights _ content other = content

  -- the results of the collector's side
  abbrev pub either_gives : {L R S : Type 0} → (C → L → R → Type 0) → (D → L → S → Type 0) → Either C D → L → Either R S → Type 0
  either_gives lefts rights (Left c) l (Left r) = lefts c l r
  either_gives lefts rights (Right d) l (Right s) = rights d l s
  either_gives lefts rights _ l _ = ⊥

  module _ {X A B : Type 0} (is_value : X → Type 0) (empty : C → A) (empty' : D → B) (add : C → A → X → A) (add' : D → B → X → B) where
    pub fold-left : (c : C) (a : A) (l : List X) → fold (either_add add add' (Left c)) (Some (Left a)) l ≡ Some (Left (fold (add c) a l))
    fold-left c a [] = refl
    fold-left c a (x ∷ l) = fold-left c (add c a x) l

    pub fold-right : (d : D) (b : B) (l : List X) → fold (either_add add add' (Right d)) (Some (Right b)) l ≡ Some (Right (fold (add' d) b l))
    fold-right d b [] = refl
    fold-right d b (x ∷ l) = fold-right d (add' d b x) l

    module _ (merge : C → A → A → A) (merge' : D → B → B → B) where
      pub either_laws : ((c : C) → CollectorLaws is_value (empty c) (add c) (merge c)) → ((d : D) → CollectorLaws is_value (empty' d) (add' d) (merge' d))
          → (e : Either C D) → CollectorLaws is_value (either_empty empty empty' e) (either_add add add' e) (either_merge merge merge' e)
      either_laws laws laws' (Left c) =
          let folded = fold-left c (empty c) in
          let into = either_merge merge merge' (Left c) in record {
            identity = λ l v. ap (λ a. into a (Some (Left (empty c)))) (folded l) ∙ ap (λ a. Some (Left a)) ((laws c).identity l v) ∙ sym (folded l);
            associativity = λ l r x v w u.
                ap₂ (λ a b. into a (either_add add add' (Left c) b x)) (folded l) (folded r)
                ∙ ap (λ a. Some (Left a)) ((laws c).associativity l r x v w u)
                ∙ sym (ap₂ (λ a b. either_add add add' (Left c) (into a b) x) (folded l) (folded r));
          }
      either_laws laws laws' (Right d) =
          let folded = fold-right d (empty' d) in
          let into = either_merge merge merge' (Right d) in record {
            identity = λ l v. ap (λ a. into a (Some (Right (empty' d)))) (folded l) ∙ ap (λ a. Some (Right a)) ((laws' d).identity l v) ∙ sym (folded l);
            associativity = λ l r x v w u.
                ap₂ (λ a b. into a (either_add add add' (Right d) b x)) (folded l) (folded r)
                ∙ ap (λ a. Some (Right a)) ((laws' d).associativity l r x v w u)
                ∙ sym (ap₂ (λ a b. either_add add add' (Right d) (into a b) x) (folded l) (folded r));
          }
