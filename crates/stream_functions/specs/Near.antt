-- Distances of numbers.
use Rattle.std.specs.Prelude.{ℕ, ℤ, pos, negsuc, ◌^◌, ◌≤ℤ◌, ◌<ℤ◌}

-- how far a number is from 0, or a negative one from -1
abbrev pub distance : ℤ → ℕ
distance (pos n) = n
distance (negsuc n) = n

-- it isn't negative, and has 31 digits at most
abbrev pub IsNearNatural : ℤ → Type 0
IsNearNatural x = (pos 0 ≤ℤ x) × (x <ℤ pos (2 ^ 31))
