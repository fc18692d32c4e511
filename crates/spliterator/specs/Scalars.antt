-- Equality and order of truth values and of numbers that aren't negative.
use Rattle.std.specs.Prelude.{◌≡◌, ◌==◌, Bool, true, false, ℕ, refl}
use Rattle.std.specs.Bool.{beq}
use Rattle.std.specs.Cmp.{IsTotalOrder, unsigned_Decides, unsigned_ties, booleans_Decides, bool_cmp_total}
use Rattle.std.specs.Ordering.{nat_cmp, bool_cmp, is_eq}
use Rattle.std.proofs.lemmas.Cmp.{nat_cmp_total}
use Rattle.spliterator.specs.Values.{DecidesEquality}

pub nat_eq-decides : DecidesEquality ◌==◌
nat_eq-decides = unsigned_Decides

pub nat_cmp-total : IsTotalOrder nat_cmp
nat_cmp-total = nat_cmp_total

pub nat_cmp-ties : (x y : ℕ) → (x == y) ≡ is_eq (nat_cmp x y)
nat_cmp-ties = unsigned_ties

pub bool_eq-decides : DecidesEquality beq
bool_eq-decides = booleans_Decides

pub bool_cmp-total : IsTotalOrder bool_cmp
bool_cmp-total = bool_cmp_total

pub bool_cmp-ties : (x y : Bool) → beq x y ≡ is_eq (bool_cmp x y)
bool_cmp-ties true true = refl
bool_cmp-ties true false = refl
bool_cmp-ties false true = refl
bool_cmp-ties false false = refl
