-- The pieces of a text, and the number that a text writes.
use Rattle.std.specs.Prelude.{ℕ, zero, suc, Bool, ◌&&◌, List, [], ◌∷◌, length, ℤ, Option, Some, None, if◌then◌else◌, nat_lt, unwrap_or, IfSome}
use Rattle.std.specs.Char.{is_digit}
use Rattle.std.specs.List.{before_first, after_first, list_all}
use Rattle.std.specs.Ordering.{int_eq}
use Rattle.std.specs.Str.Parse.{signed_digits_value, without_leading_sign}
use Rattle.std.proofs.Common.{sym, subst}
use Rattle.std.proofs.lemmas.Bool.{and_parts}
use Rattle.spliterator.specs.Bounded.{wrapped, wrapped-value}
use Rattle.spliterator.specs.Values.{IsI64, int_eq-decides}
use Rattle.stages.specs.Tests.{either}

-- the piece at a place between the bytes that meet a test, and nothing where there are fewer
-- java.lang.String, split
unfoldable pub piece : (ℕ → Bool) → ℕ → List ℕ → List ℕ
piece ends zero text = before_first ends text
piece ends (suc at) text = piece ends at (after_first ends text)

-- a byte before the first of some pieces
abbrev pub begin_piece : ℕ → List (List ℕ) → List (List ℕ)
begin_piece b [] = (b ∷ []) ∷ []
begin_piece b (first ∷ others) = (b ∷ first) ∷ others

-- all pieces between the bytes that meet a test, empty ones too; there is one more than there are such bytes
-- java.lang.String, split (with a negative limit)
unfoldable pub pieces : (ℕ → Bool) → List ℕ → List (List ℕ)
pieces ends [] = [] ∷ []
pieces ends (b ∷ bs) = if ends b then [] ∷ pieces ends bs else begin_piece b (pieces ends bs)

-- one decimal digit or more, and nothing else
abbrev pub are_digits : List ℕ → Bool
are_digits text = nat_lt 0 (length text) && list_all (λ c. is_digit c 10) text

-- the number that digits behind a sign or none write, where an i64 keeps it
-- java.lang.Long, parseLong
unfoldable pub number_in : List ℕ → Option ℤ
number_in text =
    let number = signed_digits_value 10 text in
    if are_digits (without_leading_sign text) && int_eq (wrapped number) number then Some number else None

-- .. or another
abbrev pub number_or : ℤ → List ℕ → ℤ
number_or other text = wrapped (unwrap_or (number_in text) other)

pub number-value : (text : List ℕ) → IfSome (number_in text) IsI64
unfolding number_in
number-value text =
    let number = signed_digits_value 10 text in
    let digits = are_digits (without_leading_sign text) in
    let kept = int_eq (wrapped number) number in
    let P : Bool → Type 0 = λ is. IfSome (if is then Some number else None) IsI64 in
    either (digits && kept)
    (λ is. subst P (sym is) (subst IsI64 ((int_eq-decides (wrapped number) number).0 (and_parts digits kept is).1) (wrapped-value number)))
    (λ is. subst P (sym is) tt)
