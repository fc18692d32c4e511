-- The sum of numbers by one step: the first as often as there are numbers, and the step as often as there are pairs of them.
use Rattle.std.specs.Int.{int_wrap}
use Rattle.std.proofs.Common.{w64, ap, ap₂, sym, ◌∙◌, arith, get_or, ◌≡◌, ◌+◌, ◌*◌, ◌/◌, ◌%◌, FitsSigned, ℕ, zero, suc, ℤ, pos, neg_ℤ, ◌+ℤ◌, ◌*ℤ◌, List, [], ◌∷◌, drop, fold, length, refl}
use Rattle.std.proofs.Math.IntN.{suc_ℤ-*ℤ, zero-*ℤ, *ℤ_comm, pos-*ℤ-pos, +ℤ_idl, +ℤ_idr}
use Rattle.std.proofs.lemmas.Int.{ints, int_wrap_fits, int_wrap-add_left, int_wrap-add_right, int_wrap-mul_right}
use Rattle.sources.specs.{Progressions.progression, ProgressionLaws.length-progression}
use Rattle.stages.specs.Products.{wrapped_product}
use Rattle.stages.specs.Wrapping.{wrapped, wrapped_sum}

-- the sum of numbers
abbrev pub sum_of : List ℤ → ℤ
sum_of [] = pos 0
sum_of (x ∷ l) = x +ℤ sum_of l

sums-from : (a : ℤ) (l : List ℤ) → fold wrapped_sum (wrapped a) l ≡ wrapped (a +ℤ sum_of l)
sums-from a [] = ap wrapped (sym (+ℤ_idr a))
sums-from a (x ∷ l) =
    let both : (a +ℤ x) +ℤ sum_of l ≡ a +ℤ (x +ℤ sum_of l) = omega (arith, ints) in
    ap (λ n. fold wrapped_sum n l) (int_wrap-add_left w64 a x) ∙ sums-from (a +ℤ x) l ∙ ap wrapped both

wrapped-zero : pos 0 ≡ wrapped (pos 0)
unfolding int_wrap
wrapped-zero = refl

sums : (l : List ℤ) → fold wrapped_sum (pos 0) l ≡ wrapped (sum_of l)
sums l = ap (λ n. fold wrapped_sum n l) wrapped-zero ∙ sums-from (pos 0) l ∙ ap wrapped (+ℤ_idl (sum_of l))

times-both : (k : ℕ) (a b : ℤ) → pos k *ℤ (a +ℤ b) ≡ pos k *ℤ a +ℤ pos k *ℤ b
times-both zero a b = let z = zero-*ℤ (a +ℤ b) in let x = zero-*ℤ a in let y = zero-*ℤ b in omega (arith, ints, z, x, y)
times-both (suc k) a b =
    let z : pos (suc k) *ℤ (a +ℤ b) ≡ pos k *ℤ (a +ℤ b) +ℤ (a +ℤ b) = suc_ℤ-*ℤ (pos k) (a +ℤ b) in
    let x : pos (suc k) *ℤ a ≡ pos k *ℤ a +ℤ a = suc_ℤ-*ℤ (pos k) a in
    let y : pos (suc k) *ℤ b ≡ pos k *ℤ b +ℤ b = suc_ℤ-*ℤ (pos k) b in
    let again = times-both k a b in
    omega (arith, ints, z, x, y, again)

-- how many pairs so many numbers have
abbrev pub pairs_of : ℕ → ℕ
pairs_of zero = 0
pairs_of (suc n) = n + pairs_of n

-- of one number more than 2h, and than 2h + 1
pairs-both : (h : ℕ) → (pairs_of (suc (h + h)) ≡ h * suc (h + h)) × (pairs_of (suc (suc (h + h))) ≡ suc h * suc (h + h))
pairs-both zero = (refl, refl)
pairs-both (suc h) =
    let more : suc h + suc h ≡ suc (suc (h + h)) = omega arith in
    let again = (pairs-both h).1 in
    let even : pairs_of (suc (suc (suc (h + h)))) ≡ suc h * suc (suc (suc (h + h))) = omega (arith, again) in
    let odd : pairs_of (suc (suc (suc (suc (h + h))))) ≡ suc (suc h) * suc (suc (suc (h + h))) = omega (arith, even) in (
      ap (λ n. pairs_of (suc n)) more ∙ even ∙ ap (λ n. suc h * suc n) (sym more),
      ap (λ n. pairs_of (suc (suc n))) more ∙ odd ∙ ap (λ n. suc (suc h) * suc n) (sym more),
    )

pub pairs-even : (n : ℕ) → n % 2 ≡ 0 → (n / 2) * (n + 1) ≡ pairs_of (suc n)
pairs-even n is =
    let h = n / 2 in
    let e : n ≡ h + h = omega (arith, is) in
    let f : n + 1 ≡ suc (h + h) = omega (arith, is) in
    ap (λ m. h * m) f ∙ sym (pairs-both h).0 ∙ ap (λ m. pairs_of (suc m)) (sym e)

pub pairs-odd : (n : ℕ) → n % 2 ≡ 1 → (n / 2 + 1) * n ≡ pairs_of (suc n)
pairs-odd n is =
    let h = n / 2 in
    let e : n ≡ suc (h + h) = omega (arith, is) in
    let f : h + 1 ≡ suc h = omega arith in
    ap₂ (λ k m. k * m) f e ∙ sym (pairs-both h).1 ∙ ap (λ m. pairs_of (suc m)) (sym e)

-- a product of numbers that count
pub counted-product : (a b n : ℕ) (x y : ℤ) → x ≡ pos a → y ≡ pos b → a * b ≡ n → wrapped_product x y ≡ wrapped (pos n)
counted-product a b n x y is other same = ap₂ wrapped_product is other ∙ ap wrapped (pos-*ℤ-pos a b ∙ ap pos same)

more-times : (m n : ℕ) (s : ℤ) → pos (m + n) *ℤ s ≡ pos m *ℤ s +ℤ pos n *ℤ s
more-times zero n s =
    let none : pos (0 + n) *ℤ s ≡ pos n *ℤ s = ap (λ k. pos k *ℤ s) (omega arith) in
    let z = zero-*ℤ s in
    omega (arith, ints, none, z)
more-times (suc m) n s =
    let one : pos (suc m + n) *ℤ s ≡ pos (suc (m + n)) *ℤ s = ap (λ k. pos k *ℤ s) (omega arith) in
    let x : pos (suc (m + n)) *ℤ s ≡ pos (m + n) *ℤ s +ℤ s = suc_ℤ-*ℤ (pos (m + n)) s in
    let y : pos (suc m) *ℤ s ≡ pos m *ℤ s +ℤ s = suc_ℤ-*ℤ (pos m) s in
    let again = more-times m n s in
    omega (arith, ints, one, x, y, again)

-- a summand that is wrapped
summed : (a t : ℤ) (n : ℕ) (x : ℤ) → wrapped (a +ℤ (pos n *ℤ wrapped x +ℤ t)) ≡ wrapped (a +ℤ (pos n *ℤ x +ℤ t))
summed a t n x =
    let turned : (y : ℤ) → a +ℤ (y +ℤ t) ≡ (a +ℤ t) +ℤ y = λ y. omega (arith, ints) in
    ap wrapped (turned (pos n *ℤ wrapped x)) ∙ sym (int_wrap-add_right w64 (a +ℤ t) (pos n *ℤ wrapped x))
    ∙ ap (λ y. wrapped ((a +ℤ t) +ℤ y)) (int_wrap-mul_right w64 (pos n) x) ∙ int_wrap-add_right w64 (a +ℤ t) (pos n *ℤ x) ∙ ap wrapped (sym (turned (pos n *ℤ x)))

joined : (n : ℕ) (a s : ℤ) → a +ℤ (pos n *ℤ (a +ℤ s) +ℤ pos (pairs_of n) *ℤ s) ≡ pos (suc n) *ℤ a +ℤ pos (n + pairs_of n) *ℤ s
joined n a s =
    let both = times-both n a s in
    let more : pos (suc n) *ℤ a ≡ pos n *ℤ a +ℤ a = suc_ℤ-*ℤ (pos n) a in
    let pairs = more-times n (pairs_of n) s in
    omega (arith, ints, both, more, pairs)

summed-steps : (n : ℕ) (a s : ℤ) → wrapped (sum_of (progression a s n)) ≡ wrapped (pos n *ℤ a +ℤ pos (pairs_of n) *ℤ s)
summed-steps zero a s = let x = zero-*ℤ a in let y = zero-*ℤ s in ap wrapped (omega (arith, ints, x, y))
summed-steps (suc n) a s =
    let next = wrapped (a +ℤ s) in
    sym (int_wrap-add_right w64 a (sum_of (progression next s n)))
    ∙ ap (λ y. wrapped (a +ℤ y)) (summed-steps n next s)
    ∙ int_wrap-add_right w64 a (pos n *ℤ next +ℤ pos (pairs_of n) *ℤ s)
    ∙ summed a (pos (pairs_of n) *ℤ s) n (a +ℤ s)
    ∙ ap wrapped (joined n a s)

-- the sum of numbers by one step
pub steps-sum : (n : ℕ) (a s : ℤ) → fold wrapped_sum (pos 0) (progression a s n) ≡ wrapped (pos n *ℤ a +ℤ pos (pairs_of n) *ℤ s)
steps-sum n a s = sums (progression a s n) ∙ summed-steps n a s

-- .. as it is made
pub made-sum : (m k : ℕ) (x d : ℤ) → wrapped_sum (wrapped_product x (pos m)) (wrapped_product d (wrapped (pos k))) ≡ wrapped (pos m *ℤ x +ℤ pos k *ℤ d)
made-sum m k x d =
    let firsts = x *ℤ pos m in
    let steps = d *ℤ wrapped (pos k) in
    int_wrap-add_right w64 (wrapped firsts) steps
    ∙ int_wrap-add_left w64 firsts steps
    ∙ sym (int_wrap-add_right w64 firsts steps)
    ∙ ap (λ y. wrapped (firsts +ℤ y)) (int_wrap-mul_right w64 d (pos k))
    ∙ int_wrap-add_right w64 firsts (d *ℤ pos k)
    ∙ ap wrapped (ap₂ (λ y z. y +ℤ z) (*ℤ_comm x (pos m)) (*ℤ_comm d (pos k)))

step-read : (a s d : ℤ) → FitsSigned w64 s → d ≡ int_wrap w64 (int_wrap w64 (a +ℤ s) +ℤ neg_ℤ a) → s ≡ d
step-read a s d step is =
    let back : (a +ℤ s) +ℤ neg_ℤ a ≡ s = omega (arith, ints) in
    sym (int_wrap_fits w64 s step) ∙ ap (int_wrap w64) (sym back) ∙ sym (int_wrap-add_left w64 (a +ℤ s) (neg_ℤ a)) ∙ sym is

pub steps-read : (a s : ℤ) (n : ℕ) (x y d : ℤ) (later rest : List ℤ) → FitsSigned w64 s → progression a s n ≡ x ∷ later → later ≡ y ∷ rest → d ≡ int_wrap w64 (y +ℤ neg_ℤ x)
    → progression a s n ≡ progression x d (suc (length later))
steps-read a s zero x y d later rest step is next gap = absurd (let e = ap length is in omega arith)
steps-read a s (suc n) x y d later rest step is next gap = both n tail
  where
    head : a ≡ x
    head = ap (λ l. get_or l 0 (pos 0)) is

    tail : progression (int_wrap w64 (a +ℤ s)) s n ≡ later
    tail = ap (drop 1) is

    both : (m : ℕ) → progression (int_wrap w64 (a +ℤ s)) s m ≡ later → a ∷ progression (int_wrap w64 (a +ℤ s)) s m ≡ progression x d (suc (length later))
    both zero same = absurd (let e = ap length (same ∙ next) in omega arith)
    both (suc m) same =
        let second : int_wrap w64 (a +ℤ s) ≡ y = ap (λ l. get_or l 0 (pos 0)) (same ∙ next) in
        let one = step-read a s d step (gap ∙ ap₂ (λ u v. int_wrap w64 (u +ℤ neg_ℤ v)) (sym second) (sym head)) in
        let count : length later ≡ suc m = sym (ap length same) ∙ length-progression (int_wrap w64 (a +ℤ s)) s (suc m) in
        ap (λ z. progression z s (suc (suc m))) head ∙ ap (λ z. progression x z (suc (suc m))) one ∙ ap (λ k. progression x d (suc k)) (sym count)
