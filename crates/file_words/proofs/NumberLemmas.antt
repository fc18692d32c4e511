-- Numbers as words.
use Rattle.std.proofs.Common.{◌≡◌, ℕ, zero, suc, ◌^◌, ◌<◌, ◌≤◌, List, [], ◌∷◌, length, get_or, Some, None, Bool, true, false, eqb, refl, sym, ap, ◌∙◌, subst, arith, ◌+◌, ◌-◌, ◌*◌, ◌%◌, ◌⊎◌, inl, inr, Option, take, drop, slice_index, cond, add-one, le_refl, ℤ, pos, negsuc, neg_ℤ, ◌&&◌, ◌||◌, nat_eq, nat_le, FitsSigned, ◌≤ℤ◌, slice_range, nat_lt, ◌==◌, if◌then◌else◌}
use Rattle.std.specs.Int.{w64, IsInRange}
use Rattle.std.specs.Fmt.{decimal, signed_decimal}
use Rattle.std.specs.Str.Parse.{AllDigits, digits_value, signed_digits_value}
use Rattle.std.proofs.lemmas.Fmt.{decimal_is_IsNumeral, first_decimal, decimal_digit, decimal-digits_value}
use Rattle.std.proofs.lemmas.Str.Parse.{IsNumeralModel, numerals_by_value, tells_digits, digit_from_value, digit_at, digits_value-take-le}
use Rattle.std.{proofs.lemmas.Slice.Eq.bytes_eq-Decides, proofs.lemmas.Option.cond_some, specs.Str.bytes_eq, proofs.lemmas.Int.ints, specs.Float.Numeral.digits_len, proofs.lemmas.Grind.pow_more, proofs.lemmas.Slice.between_to_end, proofs.lemmas.List.Sums.prefix_len_stops, proofs.lemmas.Str.digit_value_digit, proofs.Math.ListN.get_or-eq_default}
use Rattle.std.proofs.lemmas.Bool.{ne_eqb, lt-ltb, ltb-true, cond-false, false_from_ne_true, and_from, and_parts, or_left, or_right, le-leb, leb-true, false≢true, eq-eqb, eqb-true, cond_both}
use Rattle.file_words.specs.Words.{lowest, highest, IsNumber}
use Rattle.file_words.specs.WordReading.{fits_signed, number_of}
use Rattle.std.proofs.lemmas.Int.Digits.{digits_value-lt, digits_value_more}
use Rattle.std.proofs.lemmas.List.{get_or-take, length-take}
use Rattle.std.specs.Char.{digit_value, is_ascii_digit}
use Rattle.std.proofs.Math.Nat.{mod-eq_of_lt, pow-le-pow_right}

pub own : IsNumeralModel (AllDigits 10) (digits_value 10)
own = numerals_by_value _ tells_digits

-- the text of a number above 0 begins with a digit that isn't 0
leading : (n : ℕ) → 0 < n → n < 2 ^ 64 → (c : ℕ) × (cs : List ℕ) × (decimal n ≡ c ∷ cs) × (49 ≤ c) × (c ≤ 57)
leading n some small =
    let k = decimal_is_IsNumeral n small in
    let first = first_decimal n some small in
    by_cases (decimal n) k.0.0 k.0.1 first
  where
    by_cases : (ds : List ℕ) → 0 < length ds → AllDigits 10 ds → 48 < get_or ds 0 0 → (c : ℕ) × (cs : List ℕ) × (ds ≡ c ∷ cs) × (49 ≤ c) × (c ≤ 57)
    by_cases [] some digits first = absurd (omega arith)
    by_cases (c ∷ cs) some digits first = (c, cs, refl, omega arith, (digit_from_value c digits.0).1)

-- a digit that isn't 0
abbrev pub is_leading_digit : ℕ → Bool
is_leading_digit b = nat_le 49 b && nat_le b 57

-- how a number's word begins
abbrev pub is_plain_number : List ℕ → Bool
is_plain_number [] = false
is_plain_number (b ∷ []) = nat_eq b 48 || is_leading_digit b
is_plain_number (b ∷ c ∷ bs) = is_leading_digit b || (nat_eq b 45 && is_leading_digit c)

leading_digit : (c : ℕ) → 49 ≤ c → c ≤ 57 → is_leading_digit c ≡ true
leading_digit c low high = and_from _ _ (le-leb 49 c low) (le-leb c 57 high)

pub leading_bounds : (c : ℕ) → is_leading_digit c ≡ true → (49 ≤ c) × (c ≤ 57)
leading_bounds c h = let p = and_parts _ _ h in (leb-true 49 c p.0, leb-true c 57 p.1)

plain_digits : (c : ℕ) (cs : List ℕ) → is_leading_digit c ≡ true → is_plain_number (c ∷ cs) ≡ true
plain_digits c [] h = or_right _ _ h
plain_digits c (d ∷ ds) h = or_left _ _ h

-- A number's word has the plain form.
number_is_plain : (word : List ℕ) (n : ℤ) → IsNumber word n → is_plain_number word ≡ true
number_is_plain word (pos zero) is = ap is_plain_number (is.1 ∙ decimal_digit 0 (omega arith))
number_is_plain word (pos (suc m)) is =
    let fits : suc m < 2 ^ 63 = is.0.sfits in
    let l = leading (suc m) (omega arith) (omega arith) in
    ap is_plain_number (is.1 ∙ l.2) ∙ plain_digits l.0 l.1 (leading_digit l.0 l.3 l.4)
number_is_plain word (negsuc m) is =
    let fits : m < 2 ^ 63 = is.0.sfits in
    let l = leading (suc m) (omega arith) (omega arith) in
    ap is_plain_number (is.1 ∙ ap (λ ds. 45 ∷ ds) l.2) ∙ leading_digit l.0 l.3 l.4

-- the number that a word of digits writes
unsigned_value : (ds : List ℕ) → AllDigits 10 ds → 0 < length ds → signed_digits_value 10 ds ≡ pos (digits_value 10 ds)
unsigned_value [] digits some = absurd (omega arith)
unsigned_value (c ∷ cs) digits some =
    let k = digit_from_value c digits.0 in
    let minus : eqb c 45 ≡ false = ne_eqb c 45 (λ e. omega (arith, k)) in
    let plus : eqb c 43 ≡ false = ne_eqb c 43 (λ e. omega (arith, k)) in
    rw (minus, plus) refl

signed_value : (n : ℤ) → FitsSigned w64 n → signed_digits_value 10 (signed_decimal n) ≡ n
signed_value (pos n) fits =
    let small : n < 2 ^ 63 = fits.sfits in
    let k = decimal_is_IsNumeral n (omega arith) in
    unsigned_value (decimal n) k.0.1 k.0.0 ∙ ap pos k.1
signed_value (negsuc n) fits =
    let small : n < 2 ^ 63 = fits.sfits in
    let k = decimal_is_IsNumeral (suc n) (omega arith) in
    ap (λ m. neg_ℤ (pos m)) k.1

fits_test : (n : ℤ) → FitsSigned w64 n → fits_signed n ≡ true
fits_test (pos n) fits = lt-ltb _ _ fits.sfits
fits_test (negsuc n) fits = lt-ltb _ _ fits.sfits

fits_from_test : (n : ℤ) → fits_signed n ≡ true → FitsSigned w64 n
fits_from_test (pos n) h = record { sfits = ltb-true _ _ h }
fits_from_test (negsuc n) h = record { sfits = ltb-true _ _ h }

-- What reads as a number is one, and each number is read.
pub number_of_number : (word : List ℕ) (n : ℤ) → IsNumber word n → number_of word ≡ Some n
unfolding number_of
number_of_number word n is =
    let value : signed_digits_value 10 word ≡ n = ap (signed_digits_value 10) is.1 ∙ signed_value n is.0 in
    let fits : fits_signed n ≡ true = fits_test n is.0 in
    let same : bytes_eq (signed_decimal n) word ≡ true = (bytes_eq-Decides (signed_decimal n) word).1 (sym is.1) in
    rw (value, fits, same) refl

pub number_of_other : (word : List ℕ) → ((n : ℤ) → ¬ (IsNumber word n)) → number_of word ≡ None
unfolding number_of
number_of_other word none =
    let n : ℤ = signed_digits_value 10 word in
    cond-false (fits_signed n && bytes_eq (signed_decimal n) word) (Some n) None
    (false_from_ne_true _ (λ t.
    let p = and_parts _ _ t in
    none n (fits_from_test n p.0, sym ((bytes_eq-Decides (signed_decimal n) word).0 p.1))))

-- a word that does not begin as a number's is none
pub not_plain : (word : List ℕ) → is_plain_number word ≡ false → number_of word ≡ None
not_plain word wrong = number_of_other word (λ n is. false≢true (sym wrong ∙ number_is_plain word n is))

pub number_is : (word : List ℕ) (n : ℤ) → number_of word ≡ Some n → IsNumber word n
unfolding number_of
number_is word n e =
    let m : ℤ = signed_digits_value 10 word in
    let c = cond_some (fits_signed m && bytes_eq (signed_decimal m) word) m n e in
    let p = and_parts _ _ c.0 in
    let same : signed_decimal m ≡ word = (bytes_eq-Decides (signed_decimal m) word).0 p.1 in
    subst (IsNumber word) c.1 (fits_from_test m p.0, sym same)

-- The numbers of 64 bits are those from the lowest to the highest.
pub fits_bounds : (n : ℤ) → FitsSigned w64 n → (lowest ≤ℤ n) × (n ≤ℤ highest)
fits_bounds (pos n) fits = let small : n < 2 ^ 63 = fits.sfits in (omega (arith, ints), omega (arith, ints))
fits_bounds (negsuc n) fits = let small : n < 2 ^ 63 = fits.sfits in (omega (arith, ints), omega (arith, ints))

pub bounds_fit : (n : ℤ) → lowest ≤ℤ n → n ≤ℤ highest → FitsSigned w64 n
bounds_fit (pos n) low high = let small : n < 2 ^ 63 = omega (arith, ints) in record { sfits = small }
bounds_fit (negsuc n) low high = let small : n < 2 ^ 63 = omega (arith, ints) in record { sfits = small }

-- Numbers by the digits in front of a text.

pub zero_number : number_of (48 ∷ []) ≡ Some (pos 0)
zero_number = number_of_number (48 ∷ []) (pos 0) (record { sfits = omega arith }, sym (decimal_digit 0 (omega arith)))

-- the digits of a number are what writes it
written : (ds : List ℕ) (value : ℕ) → AllDigits 10 ds → value ≡ digits_value 10 ds → 49 ≤ get_or ds 0 0 → value < 2 ^ 64 → decimal value ≡ ds
written [] value digits is first small = absurd (omega (arith, first))
written (d ∷ ds) value digits is first small =
    ap decimal is ∙ decimal-digits_value own (d ∷ ds) digits (omega arith) (λ e. absurd (omega (arith, first, e))) (omega (arith, is, small))

value_of : (ds : List ℕ) (k : ℕ) → k < 2 ^ 64 → ds ≡ decimal k → digits_value 10 ds ≡ k
value_of ds k small is = ap (digits_value 10) is ∙ (decimal_is_IsNumeral k small).1

-- a text of digits has no sign
unsigned : (k : ℕ) (ds : List ℕ) → k < 2 ^ 64 → 45 ∷ ds ≡ decimal k → ⊥
unsigned k ds small is =
    let digits : AllDigits 10 (45 ∷ ds) = subst (AllDigits 10) (sym is) (decimal_is_IsNumeral k small).0.1 in
    let first = digit_from_value 45 digits.0 in
    omega (arith, first)

-- the first byte of digits that begin with none of 0 and `-`
no_sign : (ds tail : List ℕ) → 49 ≤ get_or ds 0 0 → ds ≡ 45 ∷ tail → ⊥
no_sign ds tail first is = omega (arith, first, ap (λ l. get_or l 0 0) is)

-- A word of digits, the first of them not 0.
positive_number : (ds : List ℕ) (value : ℕ) → AllDigits 10 ds → value ≡ digits_value 10 ds → 49 ≤ get_or ds 0 0 → value < 2 ^ 64 → (if nat_lt value 9223372036854775808 then Some (pos value) else None) ≡ number_of ds
positive_number ds value digits is first small =
    cond_both (nat_lt value 9223372036854775808) (Some (pos value)) None (λ o. o ≡ number_of ds)
    (λ t. sym (number_of_number ds (pos value) (record { sfits = ltb-true _ _ t }, sym (written ds value digits is first small))))
    (λ f. sym (number_of_other ds (no_number f)))
  where
    no_number : nat_lt value 9223372036854775808 ≡ false → (n : ℤ) → IsNumber ds n → ⊥
    no_number f (pos k) number =
        let fits : k < 2 ^ 63 = number.0.sfits in
        let same : value ≡ k = is ∙ value_of ds k (omega arith) number.1 in
        false≢true (sym f ∙ lt-ltb value 9223372036854775808 (omega arith))
    no_number f (negsuc k) number = no_sign ds (decimal (suc k)) first number.1

-- the same behind a `-`
below_zero : (ds : List ℕ) (value : ℕ) → decimal value ≡ ds → 49 ≤ get_or ds 0 0 → value ≤ 2 ^ 63 → IsNumber (45 ∷ ds) (neg_ℤ (pos value))
below_zero ds zero written first most = absurd (omega (arith, first, ap (λ l. get_or l 0 0) (sym (decimal_digit 0 (omega arith)) ∙ written)))
below_zero ds (suc m) written first most = (record { sfits = omega arith }, sym (ap (λ l. 45 ∷ l) written))

negative_number : (ds : List ℕ) (value : ℕ) → AllDigits 10 ds → value ≡ digits_value 10 ds → 49 ≤ get_or ds 0 0 → value < 2 ^ 64 → (if nat_le value 9223372036854775808 then Some (neg_ℤ (pos value)) else None) ≡ number_of (45 ∷ ds)
negative_number ds value digits is first small =
    cond_both (nat_le value 9223372036854775808) (Some (neg_ℤ (pos value))) None (λ o. o ≡ number_of (45 ∷ ds))
    (λ t. sym (number_of_number (45 ∷ ds) (neg_ℤ (pos value)) (below_zero ds value (written ds value digits is first small) first (leb-true _ _ t))))
    (λ f. sym (number_of_other (45 ∷ ds) (no_number f)))
  where
    no_number : nat_le value 9223372036854775808 ≡ false → (n : ℤ) → IsNumber (45 ∷ ds) n → ⊥
    no_number f (pos k) number = let fits : k < 2 ^ 63 = number.0.sfits in unsigned k ds (omega arith) number.1
    no_number f (negsuc k) number =
        let fits : k < 2 ^ 63 = number.0.sfits in
        let same : value ≡ suc k = is ∙ value_of ds (suc k) (omega arith) (ap (drop 1) number.1) in
        false≢true (sym f ∙ le-leb value 9223372036854775808 (omega arith))

-- digits in front with their value, the first of them not 0
pub record AreFront (bytes : List ℕ) (n end : ℕ) : Type 0 where
  pub digits : AllDigits 10 (take end bytes)
  pub value : n ≡ digits_value 10 (take end bytes)
  pub some : 1 ≤ end
  pub fits : n < 2 ^ 64
  pub low : 49 ≤ get_or bytes 0 0

first_digit : (bytes : List ℕ) (value end : ℕ) → AreFront bytes value end → 49 ≤ get_or (take end bytes) 0 0
first_digit bytes value end f = omega (arith, f.low, get_or-take end bytes 0 0 f.some)

-- behind a sign
behind_sign : (line digits : List ℕ) (end : ℕ) → line ≡ 45 ∷ digits → take (end + 1) line ≡ 45 ∷ take end digits
behind_sign line digits end is = ap (take (end + 1)) is ∙ rw add-one refl

-- Digits that are read from the front of a text, up to 19.
front_of_digits : (bytes : List ℕ) (n : ℕ) → n ≤ digits_len bytes → AllDigits 10 (take n bytes)
front_of_digits bytes zero few = tt
front_of_digits [] (suc n) few = tt
front_of_digits (b ∷ bytes) (suc n) few = by_test (front_of_digits bytes n) (is_ascii_digit b) refl few
  where
    by_test : (n ≤ digits_len bytes → AllDigits 10 (take n bytes)) → (t : Bool) → is_ascii_digit b ≡ t → suc n ≤ cond t (1 + digits_len bytes) 0 → (digit_value b < 10) × AllDigits 10 (take n bytes)
    by_test later true is few =
        let range = and_parts _ _ is in
        let low : 48 ≤ b = leb-true 48 b range.0 in
        let high : b ≤ 57 = leb-true b 57 range.1 in
        (omega (arith, digit_value_digit b (low, high), high), later (omega (arith, few)))
    by_test later false is few = absurd (omega (arith, few))

-- so many digits, of which the first isn't 0, have at least that value
at_least : (ds : List ℕ) (n : ℕ) → n < length ds → 49 ≤ get_or ds 0 0 → get_or ds 0 0 ≤ 57 → 10 ^ n ≤ digits_value 10 (take (n + 1) ds)
at_least ds zero some low high =
    omega (arith, digits_value_more 10 ds 0 some, digit_value_digit (get_or ds 0 0) (omega (arith, low), high), low)
at_least ds (suc n) some low high =
    let before : 10 ^ n ≤ digits_value 10 (take (n + 1) ds) = at_least ds n (omega (arith, some)) low high in
    let next : suc n + 1 ≡ n + 1 + 1 = omega arith in
    omega (arith, before, ap (λ k. 10 ^ k) (sym (add-one n)), pow_more 10 n, digits_value_more 10 ds (n + 1) (omega (arith, some)), ap (λ k. digits_value 10 (take k ds)) next)

pub inside_of_digit : (bytes : List ℕ) (i : ℕ) → 48 ≤ get_or bytes i 0 → i < length bytes
inside_of_digit bytes i some = grind (arith, get_or-eq_default)

-- what is read of some bytes that are no more than a number's digits
module _ (bytes : List ℕ) (end value : ℕ) (few : length bytes ≤ 19) (ends : end ≡ 0 + digits_len bytes) (is : value ≡ (0 * 10 ^ (end - 0) + digits_value 10 (slice_range bytes 0 end)) % 2 ^ 64) where
  pub front_digits : AllDigits 10 (take end bytes)
  front_digits = front_of_digits bytes end (omega (arith, ends))

  fits : digits_value 10 (take end bytes) < 2 ^ 64
  fits =
      let below = digits_value-lt 10 (take end bytes) front_digits in
      let long : length (take end bytes) ≤ 19 = omega (arith, length-take end bytes, few) in
      let tens : 10 ^ length (take end bytes) ≤ 10 ^ 19 = pow-le-pow_right (omega arith) long in
      omega (arith, below, tens)

  pub front_value : value ≡ digits_value 10 (take end bytes)
  front_value =
      let all : end - 0 ≡ end = omega arith in
      let sum : 0 * 10 ^ (end - 0) + digits_value 10 (take end bytes) ≡ digits_value 10 (take end bytes) = omega arith in
      is ∙ ap (λ k. (0 * 10 ^ (end - 0) + digits_value 10 (take k bytes)) % 2 ^ 64) all ∙ ap (λ v. v % 2 ^ 64) sum ∙ mod-eq_of_lt fits

  -- where they end among those, no digit follows
  pub front_stops : end < length bytes → IsInRange 48 57 (slice_index bytes end) → ⊥
  front_stops less range =
      let whole : digits_len bytes ≡ end = omega (arith, ends) in
      let stops : is_ascii_digit (get_or bytes (digits_len bytes) 0) ≡ false = prefix_len_stops is_ascii_digit bytes 0 (omega (arith, whole, less)) in
      let digit : is_ascii_digit (get_or bytes end 0) ≡ true = and_from _ _ (le-leb 48 _ range.0) (le-leb _ 57 range.1) in
      false≢true (sym stops ∙ ap (λ k. is_ascii_digit (get_or bytes k 0)) whole ∙ digit)

-- A line behind its sign, where it has one.
abbrev pub IsSplit : List ℕ → List ℕ → ℕ → Type 0
IsSplit line digits sign = ((sign ≡ 0) × (digits ≡ line) × (get_or line 0 0 ≡ 45 → ⊥)) ⊎ ((sign ≡ 1) × (line ≡ 45 ∷ digits))

split_at : (line : List ℕ) (sign : ℕ) → sign ≡ (if get_or line 0 0 == 45 then 1 else 0) → IsSplit line (drop sign line) sign
split_at [] sign is = inl (is, ap (λ s. drop s []) is, λ e. absurd (omega (arith, e)))
split_at (b ∷ line) sign is = by_test (b == 45) refl is
  where
    by_test : (t : Bool) → (b == 45) ≡ t → sign ≡ cond t 1 0 → IsSplit (b ∷ line) (drop sign (b ∷ line)) sign
    by_test true e is = inr (is, ap (λ c. c ∷ line) (eqb-true b 45 e) ∙ ap (λ l. 45 ∷ l) (sym (ap (λ s. drop s (b ∷ line)) is)))
    by_test false e is = inl (is, ap (λ s. drop s (b ∷ line)) is, λ m. false≢true (sym e ∙ eq-eqb b 45 m))

pub split_line : (line : List ℕ) (sign : ℕ) → sign ≡ (if get_or line 0 0 == 45 then 1 else 0) → IsSplit line (take (length line - sign) (drop sign line)) sign
split_line line sign is =
    subst (λ l. IsSplit line l sign) (sym (between_to_end line sign (length line) (le_refl _))) (split_at line sign is)

front_same : (line digits : List ℕ) (sign end : ℕ) → sign ≡ 0 → digits ≡ line → take (sign + end) line ≡ take end digits
front_same line digits sign end none same =
    let all : 0 + end ≡ end = omega arith in
    ap (λ s. take (s + end) line) none ∙ ap (λ k. take k line) all ∙ ap (take end) (sym same)

sign_length : (sign end : ℕ) → sign ≡ 1 → sign + end ≡ end + 1
sign_length sign end one = omega (arith, one)

pub split_number : (line digits : List ℕ) (sign value end : ℕ) (number : Option ℤ) → IsSplit line digits sign → AreFront digits value end
    → (sign ≡ 0 → number ≡ (if nat_lt value 9223372036854775808 then Some (pos value) else None)) → (0 < sign → number ≡ (if nat_le value 9223372036854775808 then Some (neg_ℤ (pos value)) else None))
    → number ≡ number_of (take (sign + end) line)
split_number line digits sign value end number (inl e) f plain behind =
    plain e.0 ∙ positive_number (take end digits) value f.digits f.value (first_digit digits value end f) f.fits ∙ ap number_of (sym (front_same line digits sign end e.0 e.1))
split_number line digits sign value end number (inr e) f plain behind =
    behind (omega (arith, e.0)) ∙ negative_number (take end digits) value f.digits f.value (first_digit digits value end f) f.fits
    ∙ ap number_of (sym (behind_sign line digits end e.1)) ∙ ap (λ k. number_of (take k line)) (sym (sign_length sign end e.0))

-- What is no number's digits behind its sign is no number.
module _ (line digits : List ℕ) (sign : ℕ) (split : IsSplit line digits sign) where
  undigital : ((k : ℕ) → k ≤ 2 ^ 63 → digits ≡ decimal k → ⊥) → number_of line ≡ None
  undigital other = number_of_other line (none split)
    where
      none : IsSplit line digits sign → (n : ℤ) → IsNumber line n → ⊥
      none (inl e) (pos k) number = let fits : k < 2 ^ 63 = number.0.sfits in other k (omega arith) (e.1 ∙ number.1)
      none (inl e) (negsuc k) number = e.2 (ap (λ l. get_or l 0 0) number.1)
      none (inr e) (pos k) number = let fits : k < 2 ^ 63 = number.0.sfits in unsigned k digits (omega arith) (sym e.1 ∙ number.1)
      none (inr e) (negsuc k) number = let fits : k < 2 ^ 63 = number.0.sfits in other (suc k) (omega arith) (ap (drop 1) (sym e.1 ∙ number.1))

  pub other_byte : (end : ℕ) → end < length digits → (IsInRange 48 57 (slice_index digits end) → ⊥) → number_of line ≡ None
  other_byte end inside other = undigital (λ k most is. other (digit_at digits end (subst (AllDigits 10) (sym is) (decimal_is_IsNumeral k (omega (arith, most))).0.1) inside))

  pub too_many : 19 < length digits → 49 ≤ get_or digits 0 0 → get_or digits 0 0 ≤ 57 → number_of line ≡ None
  too_many more low high = undigital (λ k most is.
      omega (arith, most, value_of digits k (omega (arith, most)) is, at_least digits 19 more low high, digits_value-take-le 10 digits 20 (omega (arith, more))))

  pub other_front : is_leading_digit (get_or digits 0 0) ≡ false → (line ≡ 48 ∷ [] → ⊥) → number_of line ≡ None
  other_front other no_zero = not_plain line (by_sign split)
    where
      plain : (ds : List ℕ) → is_leading_digit (get_or ds 0 0) ≡ false → (ds ≡ 48 ∷ [] → ⊥) → (get_or ds 0 0 ≡ 45 → ⊥) → is_plain_number ds ≡ false
      plain [] other no_zero minus = refl
      plain (c ∷ []) other no_zero minus = rw (ne_eqb c 48 (λ is. no_zero (ap (λ d. d ∷ []) is)), other) refl
      plain (c ∷ d ∷ ds) other no_zero minus = rw (other, ne_eqb c 45 minus) refl

      signed : (ds : List ℕ) → is_leading_digit (get_or ds 0 0) ≡ false → is_plain_number (45 ∷ ds) ≡ false
      signed [] other = refl
      signed (d ∷ ds) other = other

      by_sign : IsSplit line digits sign → is_plain_number line ≡ false
      by_sign (inl e) = ap is_plain_number (sym e.1) ∙ plain digits other (λ is. no_zero (sym e.1 ∙ is)) (λ is. e.2 (ap (λ l. get_or l 0 0) (sym e.1) ∙ is))
      by_sign (inr e) = ap is_plain_number e.1 ∙ signed digits other

-- a digit isn't the space behind it
pub some_digits : (digits : List ℕ) (count b : ℕ) → 49 ≤ get_or digits 0 0 → get_or digits count 0 ≡ b → b ≡ 32 → 1 ≤ count
some_digits digits zero b low next space = absurd (omega (arith, low, next, space))
some_digits digits (suc n) b low next space = omega arith
