-- What a text's first line is, as a search for a line feed finds it.
use Rattle.std.specs.Prelude.{◌≡◌, ◌≢◌, ℕ, ◌<◌, ◌==◌, List, [], ◌∷◌, ◌++◌, length, slice_index, refl}
use Rattle.std.proofs.Common.{inl, inr, sym, ap, ◌∙◌, get_or, arith}
use Rattle.std.proofs.lemmas.Bool.{false≢true, eqb-true}
use Rattle.std.proofs.lemmas.List.{get_or-take, length-take-le}
use Rattle.std.proofs.lemmas.List.Sums.{fails_before_first, passes_at_first, split_at_first}
use Rattle.std.specs.List.{position_or_len, before_first, after_first}
use Rattle.sources.specs.LinesSplit.{IsFirstLine}

-- up to its first line feed a text has none
unbroken_below : (bs : List ℕ) (k : ℕ) → k < position_or_len (λ b. b == 10) bs → slice_index bs k ≢ 10
unbroken_below bs k below same = absurd (false≢true (sym (fails_before_first (λ b. b == 10) bs k 0 below) ∙ ap (λ b. b == 10) same))

pub IsFirstLine-cut : (bs : List ℕ) → position_or_len (λ b. b == 10) bs < length bs → IsFirstLine bs (before_first (λ b. b == 10) bs) (after_first (λ b. b == 10) bs)
IsFirstLine-cut bs found =
    let n = position_or_len (λ b. b == 10) bs in
    let count : length (before_first (λ b. b == 10) bs) ≡ n = length-take-le n bs (omega arith) in
    let feed : get_or bs n 0 ≡ 10 = eqb-true (get_or bs n 0) 10 (passes_at_first (λ b. b == 10) bs 0 found) in
    record {
      unbroken = λ k _ within same. let below : k < n = omega arith in unbroken_below bs k below (sym (get_or-take n bs k 0 below) ∙ same);
      ended = inl (split_at_first (λ b. b == 10) bs 0 found ∙ ap (λ b. before_first (λ x. x == 10) bs ++ (b ∷ after_first (λ x. x == 10) bs)) feed);
    }

pub IsFirstLine-all : (bs : List ℕ) → 0 < length bs → position_or_len (λ b. b == 10) bs ≡ length bs → IsFirstLine bs bs []
IsFirstLine-all bs some missing = record {
  unbroken = λ k _ within. unbroken_below bs k (omega arith);
  ended = inr (refl, (λ empty. absurd (let none = ap length empty in omega arith)), refl);
}
