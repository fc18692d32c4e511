-- The digits reach up to the space.
use Rattle.std.proofs.Common.{◌≡◌, ◌∙◌, ◌+◌, ◌-◌, ◌≤◌, ℕ, List, length, take, drop, get_or, refl, sym, ap, subst, arith, le_refl}
use Rattle.std.proofs.lemmas.List.{drop-drop, get_or-drop, length-take-le, take-take}
use Rattle.std.proofs.lemmas.{Bool.eqb-true, Slice.between_to_end}
use Rattle.std.specs.Str.Parse.{AllDigits, digits_value}
use Rattle.file_words.{specs.WordReading.number_of, proofs.LineLemmas.word_cut}
use Rattle.file_words.proofs.NumberLemmas.{IsSplit, front_digits, front_value, some_digits, split_line, split_number, leading_bounds}
use Rattle.file_words.proofs.number.near_number.Goals as goal

pub returns-then-sign-count : goal.returns-then-sign-count
returns-then-sign-count c =
    let line : List ℕ = c.args.line.now in
    let sign : ℕ = c.sign_len-sign.result in
    let end : ℕ = c.in_ok-end.end in
    let digits : List ℕ = take (length line - sign) (drop sign line) in
    let split : IsSplit line digits sign = split_line line sign c.sign_len-sign.ensures in
    let count : ℕ = c.read_digits-count.result.0 in
    let value : ℕ = c.read_digits-count.result.1 in
    let e = c.read_digits-count.ensures in
    let room : 8 ≤ length digits = omega (arith, c.if-digits-lt-WORD.false) in
    let same : sign + count ≡ end = c.if-sign-count.true in
    let few : length (take 8 digits) ≤ 19 = omega (arith, length-take-le 8 digits room) in
    let front : take count (take 8 digits) ≡ take count digits = take-take count 8 digits (omega (arith, e.within, length-take-le 8 digits room)) in
    let rest : digits ≡ drop sign line = between_to_end line sign (length line) (le_refl _) in
    let next : get_or digits count 0 ≡ get_or line end 0 = ap (λ l. get_or l count 0) rest ∙ get_or-drop sign line count 0 ∙ ap (λ k. get_or line k 0) same in
    let space : get_or line end 0 ≡ 32 = eqb-true _ 32 c.in_ok-end.ensures.1 in
    let first = leading_bounds _ (sym c.if-not-has_leading_digit.ensures) in
    let number = split_number line digits sign value count c.signed.result split (record {
      digits = subst (AllDigits 10) front (front_digits (take 8 digits) count value few e.end e.value);
      value = front_value (take 8 digits) count value few e.end e.value ∙ ap (digits_value 10) front;
      some = some_digits digits count _ first.0 next space;
      fits = omega arith;
      low = first.0;
    }) c.signed.ensures.positive c.signed.ensures.negative in
    (take end line, word_cut line (take end line) (drop end line) _ end c.in_ok-end.ensures refl refl (between_to_end line (end + 1) (length line) (le_refl _) ∙ sym (drop-drop 1 end line)), number ∙ ap (λ k. number_of (take k line)) same)
