-- What holds of numbers by one step.
use Rattle.std.specs.Prelude.{◌≡◌, ℕ, zero, suc, ◌+◌, ◌-◌, ◌^◌, ◌≤◌, ℤ, pos, negsuc, neg_ℤ, ◌+ℤ◌, ◌-ℤ◌, ◌*ℤ◌, ◌≤ℤ◌, FitsSigned, List, [], ◌∷◌, ◌++◌, length, map, take, drop, refl}
use Rattle.std.proofs.Common.{w64, sym, ap, ◌∙◌, arith}
use Rattle.std.specs.Int.{int_wrap}
use Rattle.std.proofs.Math.IntN.{suc_ℤ-*ℤ, zero-*ℤ}
use Rattle.std.proofs.lemmas.Bool.{false≢true}
use Rattle.std.specs.declared.cmp.Ordering.{Ordering}
use Rattle.spliterator.specs.Spliterator.{IsSoundFor}
use Rattle.sources.specs.Halves.{told_sized}
use Rattle.sources.specs.HalvesLaws.{CountsItems}
use Rattle.std.proofs.lemmas.Int.{ints, int_wrap_fits, int_wrap-add_left, int_wrap-add_right, int_wrap-mul_left, int_wrap-sub_right, SFits-int_wrap}
use Rattle.std.proofs.lemmas.List.{take_all, drop_all}
use Rattle.sources.specs.Integers.{integers}
use Rattle.sources.specs.Progressions.{progression, steps_on}

pub length-progression : (a s : ℤ) (n : ℕ) → length (progression a s n) ≡ n
length-progression a s zero = refl
length-progression a s (suc n) = ap suc (length-progression (int_wrap w64 (a +ℤ s)) s n)

one_step_on : (a s : ℤ) (n : ℕ) → steps_on (int_wrap w64 (a +ℤ s)) s n ≡ steps_on a s (suc n)
one_step_on a s n =
    let more : pos (suc n) *ℤ s ≡ pos n *ℤ s +ℤ s = suc_ℤ-*ℤ (pos n) s in
    let both : (a +ℤ s) +ℤ pos n *ℤ s ≡ a +ℤ pos (suc n) *ℤ s = omega (arith, ints, more) in
    int_wrap-add_left w64 (a +ℤ s) (pos n *ℤ s) ∙ ap (int_wrap w64) both

pub no_step_on : (a s : ℤ) → FitsSigned w64 a → steps_on a s 0 ≡ a
no_step_on a s fits =
    let none : a +ℤ pos 0 *ℤ s ≡ a = let z = zero-*ℤ s in omega (arith, ints, z) in
    ap (int_wrap w64) none ∙ int_wrap_fits w64 a fits

pub step_more : (a s : ℤ) (n : ℕ) → int_wrap w64 (steps_on a s n +ℤ s) ≡ steps_on a s (n + 1)
step_more a s n =
    let more : pos (suc n) *ℤ s ≡ pos n *ℤ s +ℤ s = suc_ℤ-*ℤ (pos n) s in
    let both : (a +ℤ pos n *ℤ s) +ℤ s ≡ a +ℤ pos (suc n) *ℤ s = omega (arith, ints, more) in
    let count : suc n ≡ n + 1 = omega arith in
    int_wrap-add_left w64 (a +ℤ pos n *ℤ s) s ∙ ap (int_wrap w64) both ∙ ap (steps_on a s) count

pub progression-append : (a s : ℤ) (m n : ℕ) → FitsSigned w64 a → progression a s (m + n) ≡ progression a s m ++ progression (steps_on a s m) s n
progression-append a s zero n fits =
    let count : 0 + n ≡ n = omega arith in
    ap (progression a s) count ∙ ap (λ b. progression b s n) (sym (no_step_on a s fits))
progression-append a s (suc m) n fits =
    let b = int_wrap w64 (a +ℤ s) in
    let count : suc m + n ≡ suc (m + n) = omega arith in
    ap (progression a s) count ∙ ap (λ xs. a ∷ xs) (progression-append b s m n (SFits-int_wrap w64 (a +ℤ s)) ∙ ap (λ c. progression b s m ++ progression c s n) (one_step_on a s m))

pub take-progression : (a s : ℤ) (m n : ℕ) → m ≤ n → take m (progression a s n) ≡ progression a s m
take-progression a s zero n h = refl
take-progression a s (suc m) zero h = absurd (omega (arith, h))
take-progression a s (suc m) (suc n) h = ap (λ xs. a ∷ xs) (take-progression (int_wrap w64 (a +ℤ s)) s m n (omega (arith, h)))

pub drop-progression : (a s : ℤ) (m n : ℕ) → FitsSigned w64 a → m ≤ n → drop m (progression a s n) ≡ progression (steps_on a s m) s (n - m)
drop-progression a s zero n fits h =
    let count : n ≡ n - 0 = omega arith in
    ap (λ b. progression b s n) (sym (no_step_on a s fits)) ∙ ap (progression (steps_on a s 0) s) count
drop-progression a s (suc m) zero fits h = absurd (omega (arith, h))
drop-progression a s (suc m) (suc n) fits h =
    let b = int_wrap w64 (a +ℤ s) in
    let count : n - m ≡ suc n - suc m = omega arith in
    drop-progression b s m n (SFits-int_wrap w64 (a +ℤ s)) (omega (arith, h)) ∙ ap (λ c. progression c s (n - m)) (one_step_on a s m) ∙ ap (progression (steps_on a s (suc m)) s) count

pub take-progression_all : (a s : ℤ) (m n : ℕ) → n ≤ m → take m (progression a s n) ≡ progression a s n
take-progression_all a s m n h = take_all m (progression a s n) (let e = length-progression a s n in omega (arith, h, e))

pub drop-progression_all : (a s : ℤ) (m n : ℕ) → n ≤ m → drop m (progression a s n) ≡ []
drop-progression_all a s m n h = drop_all m (progression a s n) (let e = length-progression a s n in omega (arith, h, e))

-- a sum with each number
pub progression-plus : (c a s : ℤ) (n : ℕ) → map (λ x. int_wrap w64 (x +ℤ c)) (progression a s n) ≡ progression (int_wrap w64 (a +ℤ c)) s n
progression-plus c a s zero = refl
progression-plus c a s (suc n) =
    let turned : (a +ℤ s) +ℤ c ≡ (a +ℤ c) +ℤ s = omega (arith, ints) in
    let same : int_wrap w64 (int_wrap w64 (a +ℤ s) +ℤ c) ≡ int_wrap w64 (int_wrap w64 (a +ℤ c) +ℤ s) =
    int_wrap-add_left w64 (a +ℤ s) c ∙ ap (int_wrap w64) turned ∙ sym (int_wrap-add_left w64 (a +ℤ c) s) in
    ap (λ xs. int_wrap w64 (a +ℤ c) ∷ xs) (progression-plus c (int_wrap w64 (a +ℤ s)) s n ∙ ap (λ b. progression b s n) same)

-- consecutive integers are numbers by the step 1
pub progression-integers : (a : ℤ) (n : ℕ) → FitsSigned w64 a → (a +ℤ pos n) ≤ℤ pos (2 ^ 63) → integers a n ≡ progression a (pos 1) n
progression-integers a zero fits h = refl
progression-integers a (suc zero) fits h = refl
progression-integers a (suc (suc n)) fits h =
    let next : FitsSigned w64 (a +ℤ pos 1) = grind (arith, ints, fits, h) in
    let same : int_wrap w64 (a +ℤ pos 1) ≡ a +ℤ pos 1 = int_wrap_fits w64 (a +ℤ pos 1) next in
    ap (λ xs. a ∷ xs) (progression-integers (a +ℤ pos 1) (suc n) next (omega (arith, ints, h)) ∙ ap (λ b. progression b (pos 1) (suc n)) (sym same))

-- a number more
pub progression_more : (a s : ℤ) (n : ℕ) → FitsSigned w64 a → progression a s (n + 1) ≡ progression a s n ++ steps_on a s n ∷ []
progression_more a s n fits = progression-append a s n 1 fits

-- a product with a sum is the sum of the products
times_more : (m k : ℤ) → (m +ℤ pos 1) *ℤ k ≡ m *ℤ k +ℤ k
times_more (pos n) k =
    let one : pos n +ℤ pos 1 ≡ pos (suc n) = omega (arith, ints) in
    ap (λ z. z *ℤ k) one ∙ suc_ℤ-*ℤ (pos n) k
times_more (negsuc zero) k = suc_ℤ-*ℤ (negsuc zero) k
times_more (negsuc (suc n)) k =
    let one : negsuc (suc n) +ℤ pos 1 ≡ negsuc n = omega (arith, ints) in
    ap (λ z. z *ℤ k) one ∙ suc_ℤ-*ℤ (negsuc (suc n)) k

sum_times : (a s k : ℤ) → (a +ℤ s) *ℤ k ≡ a *ℤ k +ℤ s *ℤ k
sum_times (pos zero) s k =
    let same : pos 0 +ℤ s ≡ s = omega (arith, ints) in
    let none = zero-*ℤ k in
    let kept : s *ℤ k ≡ pos 0 *ℤ k +ℤ s *ℤ k = omega (arith, ints, none) in
    ap (λ z. z *ℤ k) same ∙ kept
sum_times (pos (suc n)) s k =
    let same : pos (suc n) +ℤ s ≡ (pos n +ℤ s) +ℤ pos 1 = omega (arith, ints) in
    let last = sum_times (pos n) s k in
    let one : pos (suc n) *ℤ k ≡ pos n *ℤ k +ℤ k = suc_ℤ-*ℤ (pos n) k in
    let more : (pos n +ℤ s) *ℤ k +ℤ k ≡ pos (suc n) *ℤ k +ℤ s *ℤ k = omega (arith, ints, last, one) in
    ap (λ z. z *ℤ k) same ∙ times_more (pos n +ℤ s) k ∙ more
sum_times (negsuc zero) s k =
    let back : (negsuc zero +ℤ s) +ℤ pos 1 ≡ s = omega (arith, ints) in
    let whole : s *ℤ k ≡ (negsuc zero +ℤ s) *ℤ k +ℤ k = ap (λ z. z *ℤ k) (sym back) ∙ times_more (negsuc zero +ℤ s) k in
    let one : pos 0 *ℤ k ≡ negsuc zero *ℤ k +ℤ k = suc_ℤ-*ℤ (negsuc zero) k in
    let none = zero-*ℤ k in
    omega (arith, ints, whole, one, none)
sum_times (negsuc (suc n)) s k =
    let back : (negsuc (suc n) +ℤ s) +ℤ pos 1 ≡ negsuc n +ℤ s = omega (arith, ints) in
    let whole : (negsuc n +ℤ s) *ℤ k ≡ (negsuc (suc n) +ℤ s) *ℤ k +ℤ k = ap (λ z. z *ℤ k) (sym back) ∙ times_more (negsuc (suc n) +ℤ s) k in
    let one : negsuc n *ℤ k ≡ negsuc (suc n) *ℤ k +ℤ k = suc_ℤ-*ℤ (negsuc (suc n)) k in
    let last = sum_times (negsuc n) s k in
    omega (arith, ints, whole, one, last)

-- a product with each number
pub progression-times : (k a s : ℤ) (n : ℕ) → map (λ x. int_wrap w64 (x *ℤ k)) (progression a s n) ≡ progression (int_wrap w64 (a *ℤ k)) (int_wrap w64 (s *ℤ k)) n
progression-times k a s zero = refl
progression-times k a s (suc n) =
    let same : int_wrap w64 (int_wrap w64 (a +ℤ s) *ℤ k) ≡ int_wrap w64 (int_wrap w64 (a *ℤ k) +ℤ int_wrap w64 (s *ℤ k)) =
    int_wrap-mul_left w64 (a +ℤ s) k ∙ ap (int_wrap w64) (sum_times a s k)
    ∙ sym (int_wrap-add_left w64 (a *ℤ k) (s *ℤ k)) ∙ sym (int_wrap-add_right w64 (int_wrap w64 (a *ℤ k)) (s *ℤ k)) in
    ap (λ xs. int_wrap w64 (a *ℤ k) ∷ xs) (progression-times k (int_wrap w64 (a +ℤ s)) s n ∙ ap (λ b. progression b (int_wrap w64 (s *ℤ k)) n) same)

wrapped_negative : (x : ℤ) → int_wrap w64 (neg_ℤ (int_wrap w64 x)) ≡ int_wrap w64 (neg_ℤ x)
wrapped_negative x =
    let outer : neg_ℤ (int_wrap w64 x) ≡ pos 0 -ℤ int_wrap w64 x = omega (arith, ints) in
    let inner : pos 0 -ℤ x ≡ neg_ℤ x = omega (arith, ints) in
    ap (int_wrap w64) outer ∙ int_wrap-sub_right w64 (pos 0) x ∙ ap (int_wrap w64) inner

-- the negative of each number
pub progression-negated : (a s : ℤ) (n : ℕ) → map (λ x. int_wrap w64 (neg_ℤ x)) (progression a s n) ≡ progression (int_wrap w64 (neg_ℤ a)) (int_wrap w64 (neg_ℤ s)) n
progression-negated a s zero = refl
progression-negated a s (suc n) =
    let both : neg_ℤ (a +ℤ s) ≡ neg_ℤ a +ℤ neg_ℤ s = omega (arith, ints) in
    let same : int_wrap w64 (neg_ℤ (int_wrap w64 (a +ℤ s))) ≡ int_wrap w64 (int_wrap w64 (neg_ℤ a) +ℤ int_wrap w64 (neg_ℤ s)) =
    wrapped_negative (a +ℤ s) ∙ ap (int_wrap w64) both
    ∙ sym (int_wrap-add_left w64 (neg_ℤ a) (neg_ℤ s)) ∙ sym (int_wrap-add_right w64 (int_wrap w64 (neg_ℤ a)) (neg_ℤ s)) in
    ap (λ xs. int_wrap w64 (neg_ℤ a) ∷ xs) (progression-negated (int_wrap w64 (a +ℤ s)) s n ∙ ap (λ b. progression b (int_wrap w64 (neg_ℤ s)) n) same)

-- at most 2^62 of them are counted, and nothing is claimed of them
pub CountsItems-progression : {S : Type 0} (first step : S → ℤ) (left : S → ℕ) → ((s : S) → left s ≤ 2 ^ 62) → CountsItems (λ s. progression (first s) (step s) (left s)) left left (λ _. told_sized)
CountsItems-progression first step left few = record {
  weighs = λ s. sym (length-progression (first s) (step s) (left s));
  estimates = λ s. omega (arith, length-progression (first s) (step s) (left s), few s);
  sized = λ s _. refl;
  subsized = λ s _. refl;
  sized_only = λ s _. omega (arith, length-progression (first s) (step s) (left s), few s);
  subsized_only = λ s _. omega (arith, length-progression (first s) (step s) (left s), few s);
}

pub IsSoundFor-sized : {C : Type 0} (order : C → C → Ordering) (items : List C) → IsSoundFor order told_sized items
IsSoundFor-sized order items = record {
  distinct = λ h. absurd (false≢true h);
  sorted = λ h. absurd (false≢true h);
}
