-- Products that wrap, as an i64 does.
use Rattle.std.specs.Prelude.{◌≡◌, ℕ, suc, zero, ℤ, pos, negsuc, neg_ℤ, ◌*ℤ◌, refl}
use Rattle.std.proofs.Common.{w64, sym, ap, ◌∙◌}
use Rattle.std.proofs.Math.Nat.{mul_assoc}
use Rattle.std.proofs.Math.IntN.{zero-*ℤ, *ℤ_comm, neg_ℤ-neg_ℤ}
use Rattle.std.proofs.lemmas.Int.{int_wrap-mul_left, int_wrap-mul_right}
use Rattle.stages.specs.Wrapping.{wrapped}

-- the product of two numbers, as an i64
abbrev pub wrapped_product : ℤ → ℤ → ℤ
wrapped_product a b = wrapped (a *ℤ b)

-- a sign goes before the product
minus-left : (a b : ℤ) → neg_ℤ a *ℤ b ≡ neg_ℤ (a *ℤ b)
minus-left (pos zero) b = zero-*ℤ b ∙ ap neg_ℤ (sym (zero-*ℤ b))
minus-left (pos (suc m)) (pos n) = refl
minus-left (pos (suc m)) (negsuc n) = sym (neg_ℤ-neg_ℤ (pos (suc m) *ℤ pos (suc n)))
minus-left (negsuc m) (pos n) = sym (neg_ℤ-neg_ℤ (pos (suc m) *ℤ pos n))
minus-left (negsuc m) (negsuc n) = refl

minus-right : (a b : ℤ) → a *ℤ neg_ℤ b ≡ neg_ℤ (a *ℤ b)
minus-right a b = *ℤ_comm a (neg_ℤ b) ∙ minus-left b a ∙ ap neg_ℤ (*ℤ_comm b a)

-- so the signs of the three factors go one after the other
assoc-right : (m n : ℕ) (c : ℤ) → pos m *ℤ (pos n *ℤ c) ≡ (pos m *ℤ pos n) *ℤ c
assoc-right m n (pos k) = ap pos (sym (mul_assoc m n k))
assoc-right m n (negsuc k) =
    ap (λ z. pos m *ℤ z) (minus-right (pos n) (pos (suc k))) ∙ minus-right (pos m) (pos n *ℤ pos (suc k))
    ∙ ap neg_ℤ (ap pos (sym (mul_assoc m n (suc k)))) ∙ sym (minus-right (pos m *ℤ pos n) (pos (suc k)))

assoc-middle : (m : ℕ) (b c : ℤ) → pos m *ℤ (b *ℤ c) ≡ (pos m *ℤ b) *ℤ c
assoc-middle m (pos n) c = assoc-right m n c
assoc-middle m (negsuc n) c =
    ap (λ z. pos m *ℤ z) (minus-left (pos (suc n)) c) ∙ minus-right (pos m) (pos (suc n) *ℤ c)
    ∙ ap neg_ℤ (assoc-right m (suc n) c) ∙ sym (minus-left (pos m *ℤ pos (suc n)) c) ∙ ap (λ z. z *ℤ c) (sym (minus-right (pos m) (pos (suc n))))

product_assoc : (a b c : ℤ) → a *ℤ (b *ℤ c) ≡ (a *ℤ b) *ℤ c
product_assoc (pos m) b c = assoc-middle m b c
product_assoc (negsuc m) b c =
    minus-left (pos (suc m)) (b *ℤ c) ∙ ap neg_ℤ (assoc-middle (suc m) b c)
    ∙ sym (minus-left (pos (suc m) *ℤ b) c) ∙ ap (λ z. z *ℤ c) (sym (minus-left (pos (suc m)) b))

pub wrapped_product_assoc : (a b c : ℤ) → wrapped_product a (wrapped_product b c) ≡ wrapped_product (wrapped_product a b) c
wrapped_product_assoc a b c =
    int_wrap-mul_right w64 a (b *ℤ c) ∙ ap wrapped (product_assoc a b c) ∙ sym (int_wrap-mul_left w64 (a *ℤ b) c)
