-- A block of consecutive integers, and those that follow.
use Rattle.std.specs.Prelude.{◌≡◌, ℕ, ◌+◌, ◌-◌, ◌%◌, ◌^◌, ◌<◌, ◌≤◌, ℤ, pos, ◌+ℤ◌, ◌<ℤ◌, FitsSigned, List, [], ◌∷◌, ◌++◌, length, take, map}
use Rattle.std.proofs.Common.{sym, ap, ap₂, ◌∙◌, arith, w64, to_z, ⊎_elim}
use Rattle.std.specs.Int.{int_wrap}
use Rattle.std.proofs.lemmas.Int.{ints, to_z_pos, int_wrap_fits, wrapping_add-bits}
use Rattle.std.proofs.lemmas.Bool.{cases_lt}
use Rattle.std.proofs.lemmas.List.{map-id}
use Rattle.std.proofs.Math.Seq.{take-append_seam}
use Rattle.sources.specs.Integers.{integers}
use Rattle.sources.specs.IntegersLaws.{length-integers, integers-append}

pub integers_more : (a : ℤ) (n : ℕ) → integers a (n + 1) ≡ integers a n ++ (a +ℤ pos n) ∷ []
integers_more a n = integers-append a n 1

same_rest : (a b : ℤ) (n left : ℕ) → n ≤ left → (n < left → b ≡ a +ℤ pos n) → integers b (left - n) ≡ integers (a +ℤ pos n) (left - n)
same_rest a b n left within next = ⊎_elim
    (λ some. ap (λ c. integers c (left - n)) (next some))
    (λ none. let gone : left - n ≡ 0 = omega (arith, within) in ap (integers b) gone ∙ sym (ap (integers (a +ℤ pos n)) gone))
    (cases_lt n left)

pub block_and_rest : (a b : ℤ) (n left k : ℕ) (xs rest : List ℤ) → n ≤ left → k ≡ n → xs ≡ integers a n → (n < left → b ≡ a +ℤ pos n)
    → integers a left ≡ map (λ (x : ℤ). x) (take k (xs ++ rest)) ++ integers b (left - n)
block_and_rest a b n left k xs rest within same is next =
    let count : length xs ≡ n = ap length is ∙ length-integers a n in
    let front : take k (xs ++ rest) ≡ integers a n = ap (λ m. take m (xs ++ rest)) (same ∙ sym count) ∙ take-append_seam xs rest ∙ is in
    let all : left ≡ n + (left - n) = omega (arith, within) in
    ap (integers a) all ∙ integers-append a n (left - n)
    ∙ ap (λ l. l ++ integers (a +ℤ pos n) (left - n)) (sym (map-id (take k (xs ++ rest)) ∙ front))
    ∙ ap (λ l. map (λ (x : ℤ). x) (take k (xs ++ rest)) ++ l) (sym (same_rest a b n left within next))

-- a wrapping sum that doesn't wrap
pub stepped : (m n : ℕ) (a : ℤ) → m < 2 ^ 64 → n < 2 ^ 63 → to_z w64 m ≡ a → FitsSigned w64 a → (a +ℤ pos n) <ℤ pos (2 ^ 63) → to_z w64 ((m + n) % 18446744073709551616) ≡ a +ℤ pos n
stepped m n a word small is own below =
    let fits : FitsSigned w64 (a +ℤ pos n) = grind (arith, ints, own, below) in
    let step : to_z w64 ((m + n) % 18446744073709551616) ≡ int_wrap w64 (to_z w64 m +ℤ to_z w64 n) = wrapping_add-bits w64 m n word (omega (arith, small)) in
    step ∙ ap₂ (λ x y. int_wrap w64 (x +ℤ y)) is (to_z_pos w64 n small) ∙ int_wrap_fits w64 (a +ℤ pos n) fits
