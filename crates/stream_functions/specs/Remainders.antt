-- Values of remainders.
use Rattle.std.specs.Prelude.{◌≤◌, ◌<◌, ◌^◌, ℕ, ℤ, pos, negsuc}
use Rattle.std.proofs.Common.{arith}
use Rattle.std.specs.Int.{int_rem_euclid}
use Rattle.std.proofs.lemmas.Int.{ints}
use Rattle.std.proofs.lemmas.Nat.{mod_below}
use Rattle.spliterator.specs.Values.{IsI64}

-- a remainder is below its divisor
pub remainder-value : (x : ℤ) (n : ℕ) → 1 ≤ n → n < 2 ^ 63 → IsI64 (int_rem_euclid x (pos n))
remainder-value (pos a) n h k = let below = mod_below a n (omega arith) in (omega (arith, ints), omega (arith, ints))
remainder-value (negsuc a) n h k = (omega (arith, ints), omega (arith, ints))
