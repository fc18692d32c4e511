-- Whether some item meets a test, as a fold.
use Rattle.std.specs.Prelude.{◌≡◌, Bool, true, false, cond, ◌||◌, List, [], ◌∷◌, ◌++◌, fold, refl}
use Rattle.std.proofs.Common.{ap, sym, ◌∙◌}
use Rattle.collectors.specs.Laws.{CollectorLaws}
use Rattle.stages.specs.Tests.{either}
use Rattle.parallel_streams.specs.Meeting.{any-append}
use Rattle.parallel_streams.specs.Terminals.{any_meets}

or-false : (a : Bool) → (a || false) ≡ a
or-false true = refl
or-false false = refl

or-either : (a b c : Bool) → (a || (b || c)) ≡ ((a || b) || c)
or-either true b c = refl
or-either false b c = refl

module _ {X : Type 0} (p : X → Bool) where
  -- one item more
  abbrev pub meets_add : Bool → X → Bool
  meets_add met x = met || p x

  pub meets_laws : (is_value : X → Type 0) → CollectorLaws is_value false meets_add (λ left right. left || right)
  meets_laws is_value = record {
    identity = λ l v. or-false (fold meets_add false l);
    associativity = λ l r x v w u. or-either (fold meets_add false l) (fold meets_add false r) (p x);
  }

  fold-met : (l : List X) → fold meets_add true l ≡ true
  fold-met [] = refl
  fold-met (x ∷ l) = fold-met l

  pub fold-meets : (l : List X) → fold meets_add false l ≡ any_meets p l
  fold-meets [] = refl
  fold-meets (x ∷ l) = either (p x) (λ h. simp h (fold-met l)) (λ h. simp h (fold-meets l))

  -- a front in which an item meets it decides
  pub meets-more : (l more : List X) (met : Bool) → met ≡ true → met ≡ fold meets_add false l → any_meets p (l ++ more) ≡ any_meets p l
  meets-more l more met is made =
      let some : any_meets p l ≡ true = sym (fold-meets l) ∙ sym made ∙ is in
      any-append p l more ∙ ap (λ b. cond b true (any_meets p more)) some ∙ sym some
