-- Of items that ascend, a front ascends, and so do those that follow it.
use Rattle.std.specs.Prelude.{◌≡◌, ℕ, zero, suc, Bool, List, [], ◌∷◌, ◌++◌, take, drop, map}
use Rattle.std.specs.List.Sorted.{IsSortedBy}
use Rattle.std.proofs.Common.{ap₂, sym, subst, arith, ◌∙◌}
use native.Mathlib.Numerals.{unary_clauses}
use Rattle.std.proofs.lemmas.List.{take-append-drop, take-map, drop-map}

module _ {C : Type 0} (lt : C → C → Bool) where
  tail : (c : C) (cs : List C) → IsSortedBy lt (c ∷ cs) → IsSortedBy lt cs
  tail c cs h k d low within = simp unary_clauses (simp unary_clauses at (h (suc k) d (omega arith) (omega (arith, within))))

  front : (cs ds : List C) → IsSortedBy lt (cs ++ ds) → IsSortedBy lt cs
  front [] ds h k d low within = absurd (omega (arith, within))
  front (c ∷ []) ds h k d low within = absurd (omega (arith, within))
  front (c ∷ b ∷ cs) ds h zero d low within = h zero d low (omega arith)
  front (c ∷ b ∷ cs) ds h (suc k) d low within =
      simp unary_clauses (simp unary_clauses at (front (b ∷ cs) ds (tail c (b ∷ cs ++ ds) h) k d (omega arith) (omega (arith, within))))

  rest : (cs ds : List C) → IsSortedBy lt (cs ++ ds) → IsSortedBy lt ds
  rest [] ds h = h
  rest (c ∷ cs) ds h = rest cs ds (tail c (cs ++ ds) h)

  module _ {X : Type 0} (content : X → C) where
    both : (n : ℕ) (xs : List X) → IsSortedBy lt (map content xs) → IsSortedBy lt (map content (take n xs) ++ map content (drop n xs))
    both n xs h =
        subst (IsSortedBy lt) (sym (ap₂ (λ p q. p ++ q) (sym (take-map content n xs)) (sym (drop-map content n xs)) ∙ take-append-drop n (map content xs))) h

    pub ascend-front : (n : ℕ) (xs part : List X) → part ≡ take n xs → IsSortedBy lt (map content xs) → IsSortedBy lt (map content part)
    ascend-front n xs part is h = subst (λ l. IsSortedBy lt (map content l)) (sym is) (front (map content (take n xs)) (map content (drop n xs)) (both n xs h))

    pub ascend-rest : (n : ℕ) (xs part : List X) → part ≡ drop n xs → IsSortedBy lt (map content xs) → IsSortedBy lt (map content part)
    ascend-rest n xs part is h = subst (λ l. IsSortedBy lt (map content l)) (sym is) (rest (map content (take n xs)) (map content (drop n xs)) (both n xs h))

    pub ascend-tail : (xs : List X) (x : X) (part : List X) → xs ≡ x ∷ part → IsSortedBy lt (map content xs) → IsSortedBy lt (map content part)
    ascend-tail xs x part is h = tail (content x) (map content part) (subst (λ l. IsSortedBy lt (map content l)) is h)
