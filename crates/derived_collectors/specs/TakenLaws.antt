-- A sink of the values in front of the first error keeps the laws of a sink.
use Rattle.std.specs.Prelude.{◌≡◌, List, [], ◌∷◌, ◌++◌, Option, Some, None, option_map, Result, Ok, Err, true, false, refl}
use Rattle.std.specs.Option.{is_some}
use Rattle.std.proofs.Common.{ap, sym, subst, ◌∙◌}
use Rattle.derived_collectors.specs.Tried.{values_before, first_error, TakesTried}

none-some : {X P : Type 0} {x : X} → ◌≡◌ {A = Option X} None (Some x) → P
none-some h = absurd (cc)

some-none : {X P : Type 0} {x : X} → ◌≡◌ {A = Option X} (Some x) None → P
some-none h = absurd (cc)

module _ {X E : Type 0} where
  -- no item has failed so far
  values-more : (l more : List (Result X E)) → None ≡ first_error l → values_before (l ++ more) ≡ values_before l ++ values_before more
  values-more [] more h = refl
  values-more (Ok x ∷ l) more h = ap (λ values. x ∷ values) (values-more l more h)
  values-more (Err e ∷ l) more h = none-some h

  error-more : (l more : List (Result X E)) → None ≡ first_error l → first_error (l ++ more) ≡ first_error more
  error-more [] more h = refl
  error-more (Ok x ∷ l) more h = error-more l more h
  error-more (Err e ∷ l) more h = none-some h

  -- an item has failed
  values-cut : (e : E) (l more : List (Result X E)) → Some e ≡ first_error l → values_before (l ++ more) ≡ values_before l
  values-cut e [] more h = some-none h
  values-cut e (Ok x ∷ l) more h = ap (λ values. x ∷ values) (values-cut e l more h)
  values-cut e (Err d ∷ l) more h = refl

  error-cut : (e : E) (l more : List (Result X E)) → Some e ≡ first_error l → first_error (l ++ more) ≡ first_error l
  error-cut e [] more h = some-none h
  error-cut e (Ok x ∷ l) more h = error-cut e l more h
  error-cut e (Err d ∷ l) more h = refl

module _ {X E F K : Type 0} (Takes : K → List X → K → Type 0) (content : F → E) where
  abbrev Took : Option F → K → List (Result X E) → Option F → K → Type 0
  Took = TakesTried Takes content

  pub tried-none : ((a : K) → Takes a [] a) → (was : Option F) (a : K) → Took was a [] was a
  tried-none none None a = (none a, refl)
  tried-none none (Some e) a = (refl, refl)

  -- behind an error
  pub tried-behind : (was : Option F) (a : K) (l : List (Result X E)) → is_some was ≡ true → Took was a l was a
  tried-behind None a l h = absurd (cc)
  tried-behind (Some e) a l h = (refl, refl)

  pub tried-value : (was : Option F) (a b : K) (x : X) → is_some was ≡ false → Takes a (x ∷ []) b → Took was a (Ok x ∷ []) was b
  tried-value None a b x h took = (took, refl)
  tried-value (Some e) a b x h took = absurd (cc)

  pub tried-error : ((a : K) → Takes a [] a) → (was : Option F) (a : K) (e : F) → is_some was ≡ false → Took was a (Err (content e) ∷ []) (Some e) a
  tried-error none None a e h = (none a, refl)
  tried-error none (Some d) a e h = absurd (cc)

  module _ (both : (a b c : K) (xs ys : List X) → Takes a xs b → Takes b ys c → Takes a (xs ++ ys) c) where
    both-from : (is later : Option F) (a b c : K) (l more : List (Result X E)) → Takes a (values_before l) b → option_map content is ≡ first_error l
        → Took is b more later c → Took None a (l ++ more) later c
    both-from None later a b c l more took told then = (
      subst (λ values. Takes a values c) (sym (values-more l more told)) (both a b c (values_before l) (values_before more) took then.0),
      then.1 ∙ sym (error-more l more told),
    )
    both-from (Some e) later a b c l more took told then = (
      subst (λ values. Takes a values c) (sym (values-cut (content e) l more told)) (subst (Takes a (values_before l)) (sym then.0) took),
      ap (option_map content) then.1 ∙ told ∙ sym (error-cut (content e) l more told),
    )

    pub tried-both : (was is later : Option F) (a b c : K) (l more : List (Result X E)) → Took was a l is b → Took is b more later c → Took was a (l ++ more) later c
    tried-both None is later a b c l more first then = both-from is later a b c l more first.0 first.1 then
    tried-both (Some e) is later a b c l more first then =
        let same = subst (λ o. Took o b more later c) first.1 then in
        (same.0 ∙ first.0, same.1)

  pub tried-spoils : (Spoils : K → K → Type 0) → ((a b c : K) (xs : List X) → Takes a xs b → Spoils b c → Spoils a c)
      → (was is : Option F) (a b c : K) (l : List (Result X E)) → Took was a l is b → Spoils b c → Spoils a c
  tried-spoils Spoils later None is a b c l took spoilt = later a b c (values_before l) took.0 spoilt
  tried-spoils Spoils later (Some e) is a b c l took spoilt = subst (λ s. Spoils s c) took.0 spoilt

  pub tried-ready : (Ready : K → Type 0) → ((a b : K) (xs : List X) → Takes a xs b → Ready a → Ready b)
      → (was is : Option F) (a b : K) (l : List (Result X E)) → Took was a l is b → Ready a → Ready b
  tried-ready Ready stays None is a b l took ready = stays a b (values_before l) took.0 ready
  tried-ready Ready stays (Some e) is a b l took ready = subst Ready (sym took.0) ready
