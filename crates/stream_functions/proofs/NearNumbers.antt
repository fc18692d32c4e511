-- Blocks of numbers that are near, and their remainders by a small divisor.
use Rattle.std.specs.Prelude.{◌≡◌, ℕ, ◌+◌, ◌-◌, ◌*◌, ◌/◌, ◌%◌, ◌^◌, ◌<◌, ◌≤◌, ◌↔◌, ℤ, pos, negsuc, ◌-ℤ◌, int_lt, true, false, List, length, take, bit_or, nat_lt, IsTrue, FitsSigned}
use Rattle.std.specs.List.{All}
use Rattle.std.specs.Int.{cast_unsigned, w32, w64}
use Rattle.std.proofs.Common.{arith, rules, sym, ap, subst, ◌∙◌, get_or, to_z, of_z, take_all, length-take-le}
use Rattle.std.proofs.Math.Nat.{div-div-eq-div-mul, mul_comm}
use Rattle.std.proofs.lemmas.Bool.Decides.{nat_tests}
use Rattle.std.proofs.lemmas.Int.{ints}
use Rattle.std.proofs.lemmas.Nat.{or_lt, le_or_l, le_or_r}
use Rattle.std.proofs.lemmas.List.{take-take, get_or-take}
use Rattle.std.proofs.lemmas.List.Elements.{All-more, All-take, All-same, All-get_or}
use Rattle.stream_functions.specs.Near.{IsNearNatural, distance}
use Rattle.stream_functions.proofs.Quotients.{high_below, high_above, rest_exact, rest_corrected}

-- the high half of a reciprocal is one of half the digits
pub half_reciprocal : (m d : ℕ) → m ≡ (2 ^ 64 - 1) / d → m / 2 ^ 32 ≡ (2 ^ 32 - 1) / d
half_reciprocal m d is =
    ap (λ n. n / 2 ^ 32) is ∙ div-div-eq-div-mul (2 ^ 64 - 1) d (2 ^ 32) ∙ ap (λ n. (2 ^ 64 - 1) / n) (mul_comm d (2 ^ 32))
    ∙ sym (div-div-eq-div-mul (2 ^ 64 - 1) (2 ^ 32) d)

module _ (x a d n m b : ℕ) (one : 1 ≤ d) (near : x < 2 ^ 31) (is : m ≡ (2 ^ 32 - 1) / d) (is_x : a ≡ x) (is_m : b ≡ m) (is_d : n ≡ d) where
  pub small_below : a * b / 2 ^ 32 * n ≤ x
  small_below = rw is_x (rw is_m (rw is_d (high_below x d m (2 ^ 32) (omega arith) one (omega arith) is)))

  near_half : a * b / 2 ^ 32 * d ≤ x
  near_half = let e = ap (λ k. a * b / 2 ^ 32 * k) is_d in let h = small_below in omega arith

  far_half : x < a * b / 2 ^ 32 * d + 2 * d
  far_half = rw is_x (rw is_m (high_above x d m (2 ^ 32) (omega arith) one (omega arith) is))

  same : x - a * b / 2 ^ 32 * n ≡ x - a * b / 2 ^ 32 * d
  same = ap (λ k. x - a * b / 2 ^ 32 * k) is_d

  pub small_exact : x - a * b / 2 ^ 32 * n < d → x - a * b / 2 ^ 32 * n ≡ x % d
  small_exact few = same ∙ rest_exact x d (a * b / 2 ^ 32) near_half (let e = same in omega arith)

  pub small_corrected : d ≤ x - a * b / 2 ^ 32 * n → x - a * b / 2 ^ 32 * n - d ≡ x % d
  small_corrected many = ap (λ k. k - d) same ∙ rest_corrected x d (a * b / 2 ^ 32) near_half far_half (let e = same in omega arith)

-- a rest less the divisor is below 0 where the divisor is above it
pub over_is : (r d : ℕ) (f : ℤ) → r < 2 ^ 31 → d < 2 ^ 31 → f ≡ pos d → to_z w64 (of_z w64 (to_z w64 r -ℤ to_z w64 (of_z w64 f))) ≡ pos r -ℤ pos d
over_is r d f h k is = omega (arith, ints)

pub over_true : (r d : ℕ) → int_lt (pos r -ℤ pos d) (pos 0) ≡ true → r < d
over_true r d h = grind (arith, ints)

pub over_false : (r d : ℕ) → int_lt (pos r -ℤ pos d) (pos 0) ≡ false → d ≤ r
over_false r d h = grind (arith, ints)

-- each near number has few digits
near_distance : (x : ℤ) → distance x < 2 ^ 31 → FitsSigned w32 x
near_distance (pos n) h = omega (arith, ints)
near_distance (negsuc n) h = omega (arith, ints)

distance_near : (x : ℤ) → FitsSigned w32 x → distance x < 2 ^ 31
distance_near (pos n) h = omega (arith, ints)
distance_near (negsuc n) h = omega (arith, ints)

-- a size is small exactly where the number is near
pub near_both : (x : ℤ) (size : ℕ) → size ≡ distance x → size < 2 ^ 31 ↔ FitsSigned w32 x
near_both x size is = (λ few. near_distance x (omega (arith, is, few)), λ near. let h = distance_near x near in omega (arith, is, h))

-- .. or its digits are few where it is near and not negative
pub natural_both : (x : ℤ) (digits : ℕ) → FitsSigned w64 x → digits ≡ cast_unsigned w64 x → digits < 2 ^ 31 ↔ IsNearNatural x
natural_both (pos n) digits fits is = (λ few. (omega (arith, ints), omega (arith, ints, is, few)), λ near. omega (arith, ints, is, near))
natural_both (negsuc n) digits fits is = (λ few. absurd (omega (arith, ints, is, few, fits.sfits)), λ near. absurd (omega (arith, ints, near)))

-- a number more
pub near_more : (P : ℤ → Type 0) (xs : List ℤ) (i digits size : ℕ) → i < length xs → (size < 2 ^ 31 ↔ P (get_or xs i (pos 0))) → (digits < 2 ^ 31 ↔ All P (take i xs))
    → bit_or digits size < 2 ^ 31 ↔ All P (take (i + 1) xs)
near_more P xs i digits size within both so = (
  λ few. let left = le_or_l digits size in
      let right = le_or_r digits size in
      All-more P xs i (pos 0) within (so.0 (omega arith)) (both.0 (omega arith)),
  λ all. let front : All P (take i xs) = All-same P _ _ (sym (take-take i (i + 1) xs (omega arith))) (All-take P i _ all) in
      let long : length (take (i + 1) xs) ≡ i + 1 = length-take-le (i + 1) xs (omega arith) in
      let last = All-get_or P (take (i + 1) xs) i (pos 0) (omega arith) all in
      or_lt 31 digits size (so.1 front) (both.1 (subst P (get_or-take (i + 1) xs i (pos 0) (omega arith)) last)),
)

pub near_all : (P : ℤ → Type 0) (xs : List ℤ) (i digits : ℕ) → length xs ≤ i → (digits < 2 ^ 31 ↔ All P (take i xs)) → IsTrue (nat_lt digits (2 ^ 31)) ↔ All P xs
near_all P xs i digits end so = (
  λ few. All-same P _ _ (sym (take_all i xs end)) (so.0 (search (rules, nat_tests, few))),
  λ all. let few = so.1 (All-same P _ _ (take_all i xs end) all) in search (rules, nat_tests, few),
)
