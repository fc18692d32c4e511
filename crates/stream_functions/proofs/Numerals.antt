-- The number that `parse` reads, and the pieces of an empty text.
use Rattle.std.specs.Prelude.{◌≡◌, ℕ, zero, suc, ◌<◌, ◌-◌, Bool, true, ◌&&◌, List, [], ◌∷◌, length, ℤ, Option, Some, None, option_map, Result, Ok, Err, if◌then◌else◌, refl}
use Rattle.std.specs.Char.{is_digit}
use Rattle.std.specs.List.{list_all, position_or_len, before_first, after_first}
use Rattle.std.specs.Ordering.{int_eq}
use Rattle.std.specs.Result.{result_ok}
use Rattle.std.specs.Str.Parse.{AllDigits, IsNumeral, ParsesSigned, signed_digits_value, without_leading_sign}
use Rattle.std.proofs.Common.{FitsSigned, w64, ap, sym, subst, ◌∙◌, arith, lt-ltb, ltb-true}
use Rattle.std.proofs.lemmas.Bool.{and_parts, and_from}
use Rattle.std.proofs.lemmas.Int.{int_wrap_fits, SFits-int_wrap}
use Rattle.std.proofs.lemmas.List.{take_all, drop_all}
use Rattle.spliterator.specs.Bounded.{wrapped}
use Rattle.spliterator.specs.Values.{int_eq-decides}
use Rattle.stages.specs.Tests.{either}
use Rattle.stream_functions.specs.Pieces.{piece, are_digits, number_in}

pub option-itself : (o : Option ℤ) → option_map (λ n. n) o ≡ o
option-itself None = refl
option-itself (Some n) = refl

digits-true : (ds : List ℕ) → AllDigits 10 ds → list_all (λ c. is_digit c 10) ds ≡ true
digits-true [] h = refl
digits-true (c ∷ cs) h = and_from (is_digit c 10) _ (lt-ltb _ 10 h.0) (digits-true cs h.1)

digits-all : (ds : List ℕ) → list_all (λ c. is_digit c 10) ds ≡ true → AllDigits 10 ds
digits-all [] h = tt
digits-all (c ∷ cs) h = (ltb-true _ 10 (and_parts (is_digit c 10) _ h).0, digits-all cs (and_parts (is_digit c 10) _ h).1)

numeral-true : (ds : List ℕ) → IsNumeral 10 ds → are_digits ds ≡ true
numeral-true ds h = and_from _ _ (lt-ltb 0 (length ds) h.0) (digits-true ds h.1)

true-numeral : (ds : List ℕ) → are_digits ds ≡ true → IsNumeral 10 ds
true-numeral ds h = (ltb-true 0 (length ds) (and_parts _ _ h).0, digits-all ds (and_parts _ _ h).1)

module _ (text : List ℕ) where
  abbrev number : ℤ
  number = signed_digits_value 10 text

  abbrev is_number : Bool
  is_number = are_digits (without_leading_sign text) && int_eq (wrapped number) number

  fits : int_eq (wrapped number) number ≡ true → FitsSigned w64 number
  fits h = subst (FitsSigned w64) ((int_eq-decides (wrapped number) number).0 h) (SFits-int_wrap w64 number)

  pub parsed : {E : Type 0} (r : Result ℤ E) → ParsesSigned w64 10 text r → result_ok r ≡ number_in text
  unfolding number_in
  parsed (Ok n) h =
      let is = and_from _ _ (numeral-true (without_leading_sign text) h.0.0) ((int_eq-decides (wrapped number) number).1 (int_wrap_fits w64 number h.0.1)) in
      ap Some h.1 ∙ ap (λ b. if b then Some number else None) (sym is)
  parsed (Err e) h = either is_number
      (λ is. absurd (h (true-numeral (without_leading_sign text) (and_parts _ _ is).0, fits (and_parts (are_digits (without_leading_sign text)) _ is).1)))
      (λ is. ap (λ b. if b then Some number else None) (sym is))

module _ (ends : ℕ → Bool) where
  nothing-behind : (text : List ℕ) → position_or_len ends text ≡ length text → after_first ends text ≡ []
  nothing-behind text h = drop_all _ text (omega (arith, h))

  pub all-before : (text : List ℕ) → position_or_len ends text ≡ length text → text ≡ piece ends zero text
  unfolding piece
  all-before text h = sym (take_all _ text (omega (arith, h)))

  empty-pieces : (at : ℕ) → piece ends at [] ≡ []
  unfolding piece
  empty-pieces zero = refl
  empty-pieces (suc at) = empty-pieces at

  pub no-piece : (at : ℕ) (text : List ℕ) → 0 < at → position_or_len ends text ≡ length text → [] ≡ piece ends at text
  unfolding piece
  no-piece zero text more h = absurd (omega (arith, more))
  no-piece (suc at) text more h = sym (ap (piece ends at) (nothing-behind text h) ∙ empty-pieces at)

  pub piece-behind : (at : ℕ) (text : List ℕ) → 0 < at → piece ends (at - 1) (after_first ends text) ≡ piece ends at text
  unfolding piece
  piece-behind zero text more = absurd (omega (arith, more))
  piece-behind (suc at) text more =
      let before : suc at - 1 ≡ at = omega arith in
      ap (λ n. piece ends n (after_first ends text)) before

  pub piece-first : (text : List ℕ) → before_first ends text ≡ piece ends zero text
  unfolding piece
  piece-first text = refl
