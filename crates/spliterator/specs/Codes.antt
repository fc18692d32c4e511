-- Equality and order of any type's values, by the codes that the logic stores them under.
use Rattle.std.specs.Prelude.{◌≡◌, Bool, List, [], ◌∷◌, ℕ, Decides, bytes_eq, refl}
use Rattle.std.proofs.Common.{ap, ap₂}
use Rattle.std.specs.declared.cmp.Ordering.{Ordering}
use Rattle.std.specs.Ordering.{nat_cmp, is_eq}
use Rattle.std.specs.Cmp.{IsTotalOrder, on_total}
use Rattle.std.specs.Cmp.Lexicographic.{slice_cmp, texts_ties}
use Rattle.std.proofs.lemmas.Cmp.{nat_list_cmp_total}
use Rattle.std.proofs.lemmas.Slice.Eq.{bytes_eq-Decides}
use Rattle.std.proofs.lemmas.Bool.Decides.{Decides-like}
use Rattle.std.specs.Coded.{Coded}
use native.Mathlib.Omega.{arith}
use base.Stored.{Gv, gnil, gnum, gcons}

-- a tree of numbers as a list, in front of another
pub flat : Gv → List ℕ → List ℕ
flat gnil r = 0 ∷ r
flat (gnum n) r = 1 ∷ n ∷ r
flat (gcons a b) r = 2 ∷ flat a (flat b r)

head : List ℕ → ℕ
head [] = 0
head (x ∷ xs) = x

tail : List ℕ → List ℕ
tail [] = []
tail (x ∷ xs) = xs

pub flat_inj : (x y : Gv) (r s : List ℕ) → flat x r ≡ flat y s → (x ≡ y) × (r ≡ s)
unfolding flat head tail
flat_inj gnil gnil r s p = (refl, ap tail p)
flat_inj (gnum m) (gnum n) r s p =
    (ap gnum (ap (λ l. head (tail l)) p), ap (λ l. tail (tail l)) p)
flat_inj (gcons a b) (gcons c d) r s p =
    let firsts = flat_inj a c (flat b r) (flat d s) (ap tail p) in
    let seconds = flat_inj b d r s firsts.1 in
    (ap₂ gcons firsts.0 seconds.0, seconds.1)
flat_inj gnil (gnum n) r s p = let e : 0 ≡ 1 = ap head p in absurd (omega (arith, e))
flat_inj gnil (gcons c d) r s p = let e : 0 ≡ 2 = ap head p in absurd (omega (arith, e))
flat_inj (gnum m) gnil r s p = let e : 1 ≡ 0 = ap head p in absurd (omega (arith, e))
flat_inj (gnum m) (gcons c d) r s p = let e : 1 ≡ 2 = ap head p in absurd (omega (arith, e))
flat_inj (gcons a b) gnil r s p = let e : 2 ≡ 0 = ap head p in absurd (omega (arith, e))
flat_inj (gcons a b) (gnum n) r s p = let e : 2 ≡ 1 = ap head p in absurd (omega (arith, e))

module _ {T : Type 0} (c : Coded T) where
  abbrev pub spelled : T → List ℕ
  spelled x = flat (c.code x) []

  abbrev pub code_same : T → T → Bool
  code_same x y = bytes_eq (spelled x) (spelled y)

  spelled-one : (x y : T) → spelled x ≡ spelled y → x ≡ y
  spelled-one x y p = c.inj x y (flat_inj (c.code x) (c.code y) [] [] p).0

  pub code_same-decides : (x y : T) → Decides (code_same x y) (x ≡ y)
  code_same-decides x y = Decides-like (code_same x y) (spelled-one x y) (ap spelled) (bytes_eq-Decides (spelled x) (spelled y))

  abbrev pub code_order : T → T → Ordering
  code_order x y = slice_cmp nat_cmp (spelled x) (spelled y)

  pub code_order-total : IsTotalOrder code_order
  code_order-total = on_total spelled nat_list_cmp_total

  pub code_order-ties : (x y : T) → code_same x y ≡ is_eq (code_order x y)
  code_order-ties x y = texts_ties (spelled x) (spelled y)
