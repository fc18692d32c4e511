use Rattle.std.proofs.Common.{◌∙◌, ◌-◌, ◌+◌, ◌≤◌, ◌<◌, ℕ, List, length, get_or, take, drop, le_refl, sym, ap, arith}
use Rattle.std.{proofs.lemmas.Bool.false≢true, proofs.lemmas.Slice.between_to_end, proofs.lemmas.Slice.Eq.bytes_eq-Decides, specs.Int.IsInRange}
use Rattle.std.proofs.lemmas.List.{length-drop, take_all}
use Rattle.file_words.specs.WordReading.{number_of}
use Rattle.file_words.proofs.NumberLemmas.{leading_bounds, front_digits, front_stops, front_value, inside_of_digit, other_byte, other_front, split_line, split_number, too_many, zero_number}
use Rattle.file_words.proofs.number.parse_number.Goals as goal

pub returns-then-eq : goal.returns-then-eq
returns-then-eq c = sym (ap number_of ((bytes_eq-Decides _ _).0 (sym c.if-eq.ensures) ∙ c.as_slice.ensures) ∙ zero_number)

pub returns-else-eq : goal.returns-else-eq
returns-else-eq c =
    sym (other_front _ _ _ (split_line c.args.word.now _ c.sign_len-sign.ensures) (sym c.if-not-has_leading_digit.ensures)
    (λ zero. false≢true (c.if-eq.ensures ∙ (bytes_eq-Decides _ _).1 (zero ∙ sym c.as_slice.ensures))))

pub returns-then-digits-gt-MOST_DIGITS : goal.returns-then-digits-gt-MOST_DIGITS
returns-then-digits-gt-MOST_DIGITS c =
    let first = leading_bounds _ (sym c.if-not-has_leading_digit.ensures) in
    sym (too_many _ _ _ (split_line c.args.word.now _ c.sign_len-sign.ensures) (omega (arith, c.if-digits-gt-MOST_DIGITS.true)) first.0 first.1)

pub returns-then-count-digits : goal.returns-then-count-digits
returns-then-count-digits c =
    let word : List ℕ = c.args.word.now in
    let sign : ℕ = c.sign_len-sign.result in
    let digits : List ℕ = take (length word - sign) (drop sign word) in
    let count : ℕ = c.read_digits-count.result.0 in
    let value : ℕ = c.read_digits-count.result.1 in
    let e = c.read_digits-count.ensures in
    let few : length digits ≤ 19 = c.if-digits-gt-MOST_DIGITS.false in
    let first : IsInRange 49 57 (get_or digits 0 0) = leading_bounds _ (sym c.if-not-has_leading_digit.ensures) in
    let rest = between_to_end word sign (length word) (le_refl _) in
    let all : length word ≤ sign + count = omega (arith, c.if-count-digits.true, ap length rest, length-drop sign word) in
    split_number word digits sign value count c.signed.result (split_line word sign c.sign_len-sign.ensures) (record {
      digits = front_digits digits count value few e.end e.value;
      value = front_value digits count value few e.end e.value;
      some = omega (arith, c.if-count-digits.true, inside_of_digit digits 0 (omega (arith, first)));
      fits = omega arith;
      low = first.0;
    }) c.signed.ensures.positive c.signed.ensures.negative ∙ ap number_of (take_all (sign + count) word all)

pub returns-else-count-digits : goal.returns-else-count-digits
returns-else-count-digits c =
    let word : List ℕ = c.args.word.now in
    let count : ℕ = c.read_digits-count.result.0 in
    let digits : List ℕ = take (length word - c.sign_len-sign.result) (drop c.sign_len-sign.result word) in
    let e = c.read_digits-count.ensures in
    let inside : count < length digits = omega (arith, e.within, c.if-count-digits.false) in
    sym (other_byte word digits _ (split_line word _ c.sign_len-sign.ensures) count inside (front_stops digits count _ c.if-digits-gt-MOST_DIGITS.false e.end e.value inside))
