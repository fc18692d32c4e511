-- Sums that don't wrap: java.util.stream.Collectors, summingLong, of mathematical integers.
use Rattle.std.specs.Prelude.{◌≡◌, ℤ, pos, ◌+ℤ◌, List, [], ◌∷◌, fold, map, refl}
use Rattle.std.proofs.Common.{sym}
use Rattle.std.proofs.Math.IntN.{+ℤ_idr, +ℤ_assoc}
use Rattle.collectors.specs.Laws.{CollectorLaws}
use Rattle.collectors.specs.Sums.{int_sum}

module _ {X : Type 0} (number : X → ℤ) where
  -- the content that takes the number of an item in
  abbrev pub add_exact : ℤ → X → ℤ
  add_exact n x = n +ℤ number x

  total_from : (a : ℤ) (l : List X) → fold add_exact a l ≡ fold ◌+ℤ◌ a (map number l)
  total_from a [] = refl
  total_from a (x ∷ l) = total_from (a +ℤ number x) l

  pub exact_total : (l : List X) → fold add_exact (pos 0) l ≡ int_sum (map number l)
  exact_total l = total_from (pos 0) l

  pub exact_laws : (is_value : X → Type 0) → CollectorLaws is_value (pos 0) add_exact ◌+ℤ◌
  exact_laws is_value = record {
    identity = λ l vl. +ℤ_idr (fold add_exact (pos 0) l);
    associativity = λ l r x vl vr vx. sym (+ℤ_assoc (fold add_exact (pos 0) l) (fold add_exact (pos 0) r) (number x));
  }
