-- What a strict map's collector makes, as what is told.
use Rattle.std.{specs.List.list_any, proofs.lemmas.List.Folds.list_any-append}
use Rattle.std.proofs.Common.{sym, ap, ◌∙◌, subst, append-nil, append_assoc, ◌≡◌, ◌||◌, ℕ, Bool, true, false, List, [], ◌∷◌, ◌++◌, map, refl, Some, None, Ok, Err}
use Rattle.spliterator.specs.Values.{DecidesEquality}
use Rattle.stages.specs.Distinct.{AllApart}
use Rattle.stages.specs.Tests.{apart-swap, or-false_left, or-false_right}
use Rattle.collectors.specs.StrictMaps.{IsFirstRepeat}
use Rattle.value_text.specs.Texts.{strict_text}
use Rattle.pipeline_value.specs.Value.{first_repeat, repeat_or, strict_told}

module _ {K : Type 0} (same : K → K → Bool) (decides : DecidesEquality same) where
  -- a member of a list whose members are apart is none of those before it
  apart-before : (earlier : List K) (k : K) (later : List K) → AllApart same (earlier ++ k ∷ later) → list_any (same k) earlier ≡ false
  apart-before [] k later apart = refl
  apart-before (j ∷ js) k later apart =
      let none : (list_any (same j) js || list_any (same j) (k ∷ later)) ≡ false = sym (list_any-append (same j) js (k ∷ later)) ∙ apart.0 in
      let here : same j k ≡ false = or-false_left (same j k) (list_any (same j) later) (or-false_right (list_any (same j) js) (list_any (same j) (k ∷ later)) none) in
      let swapped : same k j ≡ false = apart-swap same decides j k here in
      ap (λ t. t || list_any (same k) js) swapped ∙ apart-before js k later apart.1

  pub none-repeats : (earlier ks : List K) → AllApart same (earlier ++ ks) → first_repeat same earlier ks ≡ None
  none-repeats earlier [] apart = refl
  none-repeats earlier (k ∷ ks) apart =
      let new = apart-before earlier k ks apart in
      simp new (none-repeats (earlier ++ k ∷ []) ks (subst (AllApart same) (sym (append_assoc earlier (k ∷ []) ks)) apart))

  pub one-repeats : (earlier front : List K) (k : K) (back : List K) → AllApart same (earlier ++ front) → list_any (same k) (earlier ++ front) ≡ true
      → first_repeat same earlier (front ++ k ∷ back) ≡ Some k
  one-repeats earlier [] k back apart there =
      let here : list_any (same k) earlier ≡ true = ap (list_any (same k)) (sym (append-nil earlier)) ∙ there in
      simp here
  one-repeats earlier (j ∷ front) k back apart there =
      let new = apart-before earlier j front apart in
      let regrouped = sym (append_assoc earlier (j ∷ []) front) in
      simp new (one-repeats (earlier ++ j ∷ []) front k back (subst (AllApart same) regrouped apart) (ap (list_any (same k)) (sym regrouped) ∙ there))

module _ {X K V : Type 0} (key_text : K → List ℕ) (value_text : V → List ℕ) (same : K → K → Bool) (decides : DecidesEquality same) (key : X → K) (value : X → V) (l : List X) where
  -- no key repeats
  pub map-told : AllApart same (map key l) → strict_told key_text value_text same key value l ≡ Ok (strict_text key_text value_text key value l)
  map-told apart = ap (λ o. repeat_or key_text o (strict_text key_text value_text key value l)) (none-repeats same decides [] (map key l) apart)

  -- a key is the first to repeat
  pub repeat-told : (k : K) → IsFirstRepeat same (map key l) k → strict_told key_text value_text same key value l ≡ Err (key_text k)
  repeat-told k is =
      let first : first_repeat same [] (map key l) ≡ Some k = ap (first_repeat same []) is.2 ∙ one-repeats same decides [] is.0 k is.1 is.3 is.4 in
      ap (λ o. repeat_or key_text o (strict_text key_text value_text key value l)) first
