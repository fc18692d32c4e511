-- Any number as one that a type has: what is out of range wraps, and what is within stays.
use Rattle.std.specs.Prelude.{◌≡◌, ℤ, ℕ, ◌%◌, ◌^◌, ◌<◌, Option, Some, None, refl}
use Rattle.std.specs.Option.{option_map, IfSome}
use Rattle.std.specs.Int.{int_wrap}
use Rattle.std.proofs.Common.{w64, FitsSigned, arith, ap}
use Rattle.std.proofs.lemmas.Nat.{pow_pos}
use Rattle.std.proofs.lemmas.Int.{SFits-int_wrap, int_wrap_fits, ints}
use Rattle.spliterator.specs.Values.{IsI64}
use native.Mathlib.Nat.{mod-eq_of_lt, mod-lt}

-- the number that an i64 keeps of n
abbrev pub wrapped : ℤ → ℤ
wrapped n = int_wrap w64 n

fits-bounds : (n : ℤ) → FitsSigned w64 n → IsI64 n
fits-bounds n fits = (omega (arith, ints), omega (arith, ints))

bounds-fits : (n : ℤ) → IsI64 n → FitsSigned w64 n
bounds-fits n h = let low = h.0 in let high = h.1 in search (arith, ints)

pub wrapped-value : (n : ℤ) → IsI64 (wrapped n)
wrapped-value n = fits-bounds (wrapped n) (SFits-int_wrap w64 n)

pub wrapped-same : (n : ℤ) → IsI64 n → wrapped n ≡ n
wrapped-same n h = int_wrap_fits w64 n (bounds-fits n h)

-- the number that an unsigned type of so many bits keeps of n
abbrev pub low_bits : ℕ → ℕ → ℕ
low_bits bits n = n % 2 ^ bits

pub low_bits-value : (bits n : ℕ) → low_bits bits n < 2 ^ bits
low_bits-value bits n = mod-lt n (pow_pos bits)

pub low_bits-same : (bits n : ℕ) → n < 2 ^ bits → low_bits bits n ≡ n
low_bits-same bits n h = mod-eq_of_lt h

module _ {C : Type 0} (bounded : C → C) (is_value : C → Type 0) where
  pub option-value : ((c : C) → is_value (bounded c)) → (o : Option C) → IfSome (option_map bounded o) is_value
  option-value h None = tt
  option-value h (Some c) = h c

  pub option-same : ((c : C) → is_value c → bounded c ≡ c) → (o : Option C) → IfSome o is_value → option_map bounded o ≡ o
  option-same h None v = refl
  option-same h (Some c) v = ap Some (h c v)
