-- A block of items in a container of one of two types.
use Rattle.std.proofs.Common.{◌≡◌, List, [], ◌∷◌, Some, None, fold, refl, sym, ap, ◌∙◌}
use Rattle.either.specs.declared.Either.{Either}
use Rattle.either.specs.declared.Either.TheVariants.{Left, Right}
use Rattle.collectors.specs.Either.{either_content, either_add, fold-left, fold-right}

module _ {C D R S X A B : Type 0} (is_value : X → Type 0) (content : C → R → A) (content' : D → S → B) (empty : C → A) (empty' : D → B) (add : C → A → X → A)
    (add' : D → B → X → B) where
  -- the block is taken in on the collector's side
  abbrev Takes : Either C D → Either R S → List X → Either R S → Type 0
  Takes e before xs after = either_content content content' e after ≡ fold (either_add add add' e) (either_content content content' e before) xs

  pub takes-left : (e : Either C D) (before after : Either R S) (xs : List X) (c : C) (r r' : R) → e ≡ Left c → before ≡ Left r → after ≡ Left r'
      → content c r' ≡ fold (add c) (content c r) xs → Takes e before xs after
  takes-left e before after xs c r r' p q s h = rw p (rw q (rw s (ap (λ a. Some (Left a)) h ∙ sym (fold-left is_value empty empty' add add' c (content c r) xs))))

  pub takes-right : (e : Either C D) (before after : Either R S) (xs : List X) (d : D) (s s' : S) → e ≡ Right d → before ≡ Right s → after ≡ Right s'
      → content' d s' ≡ fold (add' d) (content' d s) xs → Takes e before xs after
  takes-right e before after xs d s s' p q t h = rw p (rw q (rw t (ap (λ b. Some (Right b)) h ∙ sym (fold-right is_value empty empty' add add' d (content' d s) xs))))

  none-left : (c : C) (xs : List X) → None ≡ fold (either_add add add' (Left c)) None xs
  none-left c [] = refl
  none-left c (x ∷ xs) = none-left c xs

  none-right : (d : D) (xs : List X) → None ≡ fold (either_add add add' (Right d)) None xs
  none-right d [] = refl
  none-right d (x ∷ xs) = none-right d xs

  -- one of the other side stays as it is
  pub stays-left : (e : Either C D) (before after : Either R S) (xs : List X) (c : C) (s : S) → e ≡ Left c → before ≡ Right s → after ≡ before → Takes e before xs after
  stays-left e before after xs c s p q same = rw same (rw p (rw q (none-left c xs)))

  pub stays-right : (e : Either C D) (before after : Either R S) (xs : List X) (d : D) (r : R) → e ≡ Right d → before ≡ Left r → after ≡ before → Takes e before xs after
  stays-right e before after xs d r p q same = rw same (rw p (rw q (none-right d xs)))
