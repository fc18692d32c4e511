-- The collector of items that may have failed keeps the laws, and what its containers stand for.
use Rattle.std.specs.Prelude.{◌≡◌, List, [], ◌∷◌, ◌++◌, All, fold, map, Result, Ok, Err, MatchResult, IfOk, refl}
use Rattle.std.proofs.Common.{ap, ap₂, sym, ◌∙◌}
use Rattle.std.proofs.lemmas.List.Elements.{All-head, All-tail, All-nil, All-cons}
use Rattle.collectors.specs.Laws.{CollectorLaws}
use Rattle.derived_collectors.specs.Tried.{try_add, try_merge, AreOk, IsFirstError}

ok-same : {T X : Type 0} {x y : T} → ◌≡◌ {A = Result T X} (Ok x) (Ok y) → x ≡ y
ok-same h = cc

err-same : {T X : Type 0} {x y : X} → ◌≡◌ {A = Result T X} (Err x) (Err y) → x ≡ y
err-same h = cc

ok-err : {T X P : Type 0} {x : T} {y : X} → ◌≡◌ {A = Result T X} (Ok x) (Err y) → P
ok-err h = absurd (cc)

module _ {X E : Type 0} where
  -- a value stands before
  abbrev begin_with : X → Result (List X) E → Result (List X) E
  begin_with x (Ok xs) = Ok (x ∷ xs)
  begin_with x (Err e) = Err e

  -- the values of all items, or the first error
  abbrev pub tried : List (Result X E) → Result (List X) E
  tried [] = Ok []
  tried (Ok x ∷ l) = begin_with x (tried l)
  tried (Err e ∷ l) = Err e

  -- what `tried` makes of a list, as equations on the list
  abbrev IsOf : List (Result X E) → Result (List X) E → Type 0
  IsOf l r = MatchResult r (λ values. AreOk l values) (λ e. IsFirstError l e)

  begins : (x : X) (l : List (Result X E)) (r : Result (List X) E) → IsOf l r → IsOf (Ok x ∷ l) (begin_with x r)
  begins x l (Ok xs) is = ap (λ l. Ok x ∷ l) is
  begins x l (Err e) is = (x ∷ is.0, is.1, ap (λ l. Ok x ∷ l) is.2)

  pub tried-is : (l : List (Result X E)) → IsOf l (tried l)
  tried-is [] = refl
  tried-is (Ok x ∷ l) = begins x l (tried l) (tried-is l)
  tried-is (Err e ∷ l) = ([], l, refl)

  module _ (is_value : X → Type 0) (is_error : E → Type 0) where
    abbrev pub is_item : Result X E → Type 0
    is_item item = MatchResult item is_value is_error

    values-begin : (x : X) (r : Result (List X) E) → is_value x → IfOk r (All is_value) → IfOk (begin_with x r) (All is_value)
    values-begin x (Ok xs) v vs = All-cons is_value x xs v vs
    values-begin x (Err e) v vs = tt

    pub values-tried : (l : List (Result X E)) → All is_item l → IfOk (tried l) (All is_value)
    values-tried [] v = All-nil is_value
    values-tried (Ok x ∷ l) v = values-begin x (tried l) (All-head is_item (Ok x) l v) (values-tried l (All-tail is_item (Ok x) l v))
    values-tried (Err e ∷ l) v = tt

  module _ {A : Type 0} (add : A → X → A) where
    -- the fold of the values
    abbrev folded : Result (List X) E → A → Result A E
    folded (Ok xs) a = Ok (fold add a xs)
    folded (Err e) a = Err e

    fold-failed : (e : E) (l : List (Result X E)) → fold (try_add add) (Err e) l ≡ Err e
    fold-failed e [] = refl
    fold-failed e (x ∷ l) = fold-failed e l

    folded-begin : (x : X) (r : Result (List X) E) (a : A) → folded r (add a x) ≡ folded (begin_with x r) a
    folded-begin x (Ok xs) a = refl
    folded-begin x (Err e) a = refl

    pub fold-tried : (a : A) (l : List (Result X E)) → fold (try_add add) (Ok a) l ≡ folded (tried l) a
    fold-tried a [] = refl
    fold-tried a (Ok x ∷ l) = fold-tried (add a x) l ∙ folded-begin x (tried l) a
    fold-tried a (Err e ∷ l) = fold-failed e l

    module _ (is_value : X → Type 0) (is_error : E → Type 0) (empty : A) where
      ok-from : (l : List (Result X E)) (r : Result (List X) E) (a : A) → IsOf l r → IfOk r (All is_value) → Ok a ≡ folded r empty
          → (values : List X) × AreOk l values × All is_value values × (a ≡ fold add empty values)
      ok-from l (Ok xs) a is v h = (xs, is, v, ok-same h)
      ok-from l (Err e) a is v h = ok-err h

      -- the container of a list whose items are all values
      pub ok_of : (l : List (Result X E)) (a : A) → All (is_item is_value is_error) l → Ok a ≡ fold (try_add add) (Ok empty) l
          → (values : List X) × AreOk l values × All is_value values × (a ≡ fold add empty values)
      ok_of l a v h = ok-from l (tried l) a (tried-is l) (values-tried is_value is_error l v) (h ∙ fold-tried empty l)

      err-from : (l : List (Result X E)) (r : Result (List X) E) (e : E) → IsOf l r → Err e ≡ folded r empty → IsFirstError l e
      err-from l (Ok xs) e is h = ok-err (sym h)
      err-from l (Err d) e is h = (is.0, is.1, is.2 ∙ ap (λ e. map (λ x. Ok x) is.0 ++ Err e ∷ is.1) (sym (err-same h)))

      -- the container of a list in which an item has failed
      pub err_of : (l : List (Result X E)) (e : E) → Err e ≡ fold (try_add add) (Ok empty) l → IsFirstError l e
      err_of l e h = err-from l (tried l) e (tried-is l) (h ∙ fold-tried empty l)

      module _ (merge : A → A → A) (laws : CollectorLaws is_value empty add merge) where
        identity-at : (r : Result (List X) E) → IfOk r (All is_value) → try_merge merge (folded r empty) (Ok empty) ≡ folded r empty
        identity-at (Ok xs) v = ap (λ a. Ok a) (laws.identity xs v)
        identity-at (Err e) v = refl

        associative-at : (r s : Result (List X) E) (x : Result X E) → IfOk r (All is_value) → IfOk s (All is_value) → is_item is_value is_error x
            → try_merge merge (folded r empty) (try_add add (folded s empty) x) ≡ try_add add (try_merge merge (folded r empty) (folded s empty)) x
        associative-at (Err e) s x v w u = refl
        associative-at (Ok xs) (Err e) x v w u = refl
        associative-at (Ok xs) (Ok ys) (Err e) v w u = refl
        associative-at (Ok xs) (Ok ys) (Ok y) v w u = ap (λ a. Ok a) (laws.associativity xs ys y v w u)

        pub trying_laws : CollectorLaws (is_item is_value is_error) (Ok empty) (try_add add) (try_merge merge)
        trying_laws = record {
          identity = λ l v.
              ap (λ s. try_merge merge s (Ok empty)) (fold-tried empty l)
              ∙ identity-at (tried l) (values-tried is_value is_error l v)
              ∙ sym (fold-tried empty l);
          associativity = λ l r x v w u.
              ap₂ (λ s t. try_merge merge s (try_add add t x)) (fold-tried empty l) (fold-tried empty r)
              ∙ associative-at (tried l) (tried r) x (values-tried is_value is_error l v) (values-tried is_value is_error r w) u
              ∙ sym (ap₂ (λ s t. try_add add (try_merge merge s t) x) (fold-tried empty l) (fold-tried empty r));
        }
