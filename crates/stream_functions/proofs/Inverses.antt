-- Inverses modulo 2 ^ 64, and the multiples that they tell.
use Rattle.std.specs.Prelude.{◌≡◌, ℕ, suc, zero, ◌+◌, ◌-◌, ◌*◌, ◌/◌, ◌%◌, ◌^◌, ◌<◌, ◌≤◌, nat_eq}
use Rattle.std.specs.Int.{rotate_right, trailing_zeros, bit_at}
use Rattle.std.specs.Int.Bits.{bit_or, or_self, or_zero_r}
use Rattle.std.proofs.Common.{w64, arith, sym, ap, ◌∙◌, ⊎_elim}
use Rattle.std.proofs.Math.Dec.{leb}
use Rattle.std.proofs.Math.Nat.{mul_assoc, mul_comm, mul-mod_left, add-mod-mod, mod-add-mod, mod-eq_of_lt, mul-le-mul_left, mul-le-mul_right, one-mul, div-mul-le_self}
use Rattle.std.proofs.Math.Pow.{mod-mod-pow}
use Rattle.std.proofs.lemmas.Bool.{cases_lt}
use Rattle.std.proofs.lemmas.Bool.Decides.{nat_tests}
use Rattle.std.proofs.lemmas.Nat.{pow_pos, pow-add, mul-mod_first, mul-mod_second, mod-mul-add, div-add-mod', mod-pow-add, le_or_r, le-div, mod_below, shl-shr}
use Rattle.std.proofs.lemmas.Nat.Bits.{bit_at-trailing_zeros}

-- ---- an inverse by squaring: what is left to 1

-- n i + r is 1 modulo w, also where i is multiplied by 1 + r and r by itself
module _ (w n i r : ℕ) (is : (n * i + r) % w ≡ 1) where
  product : n * (i * ((r + 1) % w) % w) % w ≡ n * i * (r + 1) % w
  product =
      mul-mod_second n (i * ((r + 1) % w)) w ∙ ap (λ a. a % w) (sym (mul_assoc n i ((r + 1) % w))) ∙ mul-mod_second (n * i) (r + 1) w

  gathered : n * i * (r + 1) + r * r ≡ n * i + (n * i + r) * r
  gathered = omega arith

  back : (n * i + (n * i + r) * r) % w ≡ (n * i + r) % w
  back =
      sym (add-mod-mod (n * i) ((n * i + r) * r) w) ∙ ap (λ a. (n * i + a) % w) (sym (mul-mod_first (n * i + r) r w))
      ∙ add-mod-mod (n * i) ((n * i + r) % w * r) w ∙ ap (λ a. (n * i + a * r) % w) is ∙ ap (λ a. (n * i + a) % w) (one-mul r)

  pub inverse_step : (n * (i * ((r + 1) % w) % w) + r * r % w) % w ≡ 1
  inverse_step =
      add-mod-mod (n * (i * ((r + 1) % w) % w)) (r * r) w
      ∙ sym (mod-add-mod (n * (i * ((r + 1) % w) % w)) w (r * r))
      ∙ ap (λ a. (a + r * r) % w) product
      ∙ mod-add-mod (n * i * (r + 1)) w (r * r)
      ∙ ap (λ a. a % w) gathered
      ∙ back
      ∙ is

-- a square has twice as many twos
pub squared : (k r : ℕ) → k + k ≤ 64 → r % 2 ^ k ≡ 0 → r * r % 2 ^ 64 % 2 ^ (k + k) ≡ 0
squared k r h is =
    let whole : 64 - (k + k) + (k + k) ≡ 64 = omega arith in
    let q = r / 2 ^ k in
    let r_is : r ≡ q * 2 ^ k = omega (arith, div-add-mod' r (2 ^ k)) in
    let square : r * r ≡ q * q * 2 ^ (k + k) = square_of q (2 ^ k) r r_is ∙ ap (λ a. q * q * a) (sym (pow-add 2 k k)) in
    ap (λ e. r * r % 2 ^ e % 2 ^ (k + k)) (sym whole) ∙ mod-mod-pow (r * r) (64 - (k + k)) (k + k)
    ∙ ap (λ a. a % 2 ^ (k + k)) square ∙ mul-mod_left (q * q) (2 ^ (k + k))
  where
    square_of : (q a r : ℕ) → r ≡ q * a → r * r ≡ q * q * (a * a)
    square_of q a r is =
        ap (λ r. r * r) is ∙ mul_assoc q a (q * a) ∙ ap (λ b. q * b) (sym (mul_assoc a q a) ∙ ap (λ b. b * a) (mul_comm a q) ∙ mul_assoc q a a) ∙ sym (mul_assoc q q (a * a))

-- ---- a number's twos

low_none : (n t : ℕ) → ((i : ℕ) → i < t → bit_at n i ≡ 0) → n % 2 ^ t ≡ 0
low_none n zero f = omega arith
low_none n (suc t) f =
    let rest = low_none n t (λ i h. f i (omega arith)) in
    let more : suc t ≡ 1 + t = omega arith in
    let none = ap (λ b. b * 2 ^ t) (f t (omega arith)) in
    ap (λ e. n % 2 ^ e) more ∙ mod-pow-add n 1 t ∙ (omega (arith, none, rest))

-- Divided by its twos, a number is odd.
pub twos : (n : ℕ) → 0 < n → n < 2 ^ 64 → (trailing_zeros w64 n < 64) × (n / 2 ^ trailing_zeros w64 n % 2 ≡ 1) × (n / 2 ^ trailing_zeros w64 n * 2 ^ trailing_zeros w64 n ≡ n)
twos n h k =
    let bits = bit_at-trailing_zeros w64 n h k in
    let t = trailing_zeros w64 n in
    (bits.0, bits.1, let split = div-add-mod' n (2 ^ t) in let none = low_none n t bits.2 in omega (arith, split, none))

-- ---- rotations

shifted_low : (n p s : ℕ) → 0 < p → 0 < s → n * s % (p * s) ≡ n % p * s
shifted_low n p s h k =
    let below : n % p * s + s ≤ p * s = let e : (n % p + 1) * s ≤ p * s = mul-le-mul_right s (let b = mod_below n p h in omega arith) in omega arith in
    let parts : n * s ≡ n / p * (p * s) + n % p * s = let e = ap (λ n. n * s) (sym (div-add-mod' n p)) in let f = mul_assoc (n / p) p s in omega (arith, e, f) in
    ap (λ n. n % (p * s)) parts ∙ mod-mul-add (n / p) (p * s) (n % p * s) (omega (arith, below))

powers : (k : ℕ) → k ≤ 64 → 2 ^ k * 2 ^ (64 - k) ≡ 2 ^ 64
powers k h = sym (pow-add 2 k (64 - k)) ∙ ap (λ e. 2 ^ e) (let e : k + (64 - k) ≡ 64 = omega arith in e)

turned : (n k : ℕ) → 0 < k → k < 64 → rotate_right w64 n k ≡ bit_or (n / 2 ^ k) (n * 2 ^ (64 - k) % 2 ^ 64)
turned n k h l =
    ap (λ j. bit_or (n / 2 ^ j) (n * 2 ^ ((64 - j) % 64) % 2 ^ 64)) (mod-eq_of_lt l)
    ∙ ap (λ j. bit_or (n / 2 ^ k) (n * 2 ^ j % 2 ^ 64)) (mod-eq_of_lt (let e : 64 - k < 64 = omega arith in e))

unturned : (n : ℕ) → n < 2 ^ 64 → rotate_right w64 n 0 ≡ n
unturned n h =
    ap (λ a. bit_or a (n * 1 % 2 ^ 64)) (let e : n / 1 ≡ n = omega arith in e)
    ∙ ap (λ b. bit_or n b) (let e : n * 1 % 2 ^ 64 ≡ n = ap (λ a. a % 2 ^ 64) (omega arith) ∙ mod-eq_of_lt h in e)
    ∙ or_self n

rotated_multiple : (q k : ℕ) → k < 64 → q * 2 ^ k < 2 ^ 64 → rotate_right w64 (q * 2 ^ k) k ≡ q
rotated_multiple q zero h l = let e : q * 2 ^ 0 ≡ q = omega arith in ap (λ n. rotate_right w64 n 0) e ∙ unturned q (omega (arith, e))
rotated_multiple q (suc k) h l =
    let p = 2 ^ suc k in
    let s = 2 ^ (64 - suc k) in
    let none : q * p * s % 2 ^ 64 ≡ 0 = ap (λ a. a % 2 ^ 64) (mul_assoc q p s ∙ ap (λ a. q * a) (powers (suc k) (omega arith))) ∙ mul-mod_left q (2 ^ 64) in
    turned (q * p) (suc k) (omega arith) h ∙ ap (λ b. bit_or (q * p / p) b) none ∙ or_zero_r (q * p / p) ∙ shl-shr q (suc k)

rotated_other : (n k : ℕ) → k < 64 → 0 < n % 2 ^ k → 2 ^ (64 - k) ≤ rotate_right w64 n k
rotated_other n zero h some = absurd (omega arith)
rotated_other n (suc k) h some =
    let p = 2 ^ suc k in
    let s = 2 ^ (64 - suc k) in
    let low : n * s % 2 ^ 64 ≡ n % p * s = ap (λ w. n * s % w) (sym (powers (suc k) (omega arith))) ∙ shifted_low n p s (pow_pos (suc k)) (pow_pos (64 - suc k)) in
    let once : 1 * s ≤ n % p * s = mul-le-mul_right s some in
    let high = le_or_r (n / p) (n * s % 2 ^ 64) in
    omega (arith, turned n (suc k) (omega arith) h, low, once, high)

-- ---- the multiples of a number

-- d is odd times 2 to the power of k, and i is the inverse of the odd number
module _ (n d odd i k : ℕ) (word : n < 2 ^ 64) (some : 0 < d) (few : k < 64) (is : odd * 2 ^ k ≡ d) (inverse : odd * i % 2 ^ 64 ≡ 1) where
  -- times the inverse, q d is q with the twos
  product_of : (q : ℕ) → n ≡ q * d → n * i % 2 ^ 64 ≡ q * 2 ^ k
  product_of q whole =
      let odd_some : 1 ≤ odd = one_at_least odd (2 ^ k) (omega (arith, is)) in
      let below : q * 2 ^ k * 1 ≤ q * 2 ^ k * odd = mul-le-mul_left (q * 2 ^ k) odd_some in
      let apart : q * d ≡ q * 2 ^ k * odd = ap (λ d. q * d) (sym is ∙ mul_comm odd (2 ^ k)) ∙ sym (mul_assoc q (2 ^ k) odd) in
      ap (λ n. n * i % 2 ^ 64) (whole ∙ apart) ∙ ap (λ a. a % 2 ^ 64) (mul_assoc (q * 2 ^ k) odd i)
      ∙ sym (mul-mod_second (q * 2 ^ k) (odd * i) (2 ^ 64)) ∙ ap (λ a. q * 2 ^ k * a % 2 ^ 64) inverse
      ∙ mod-eq_of_lt (omega (arith, below, apart, whole)) ∙ omega arith
    where
      one_at_least : (a b : ℕ) → 0 < a * b → 1 ≤ a
      one_at_least zero b h = absurd (omega arith)
      one_at_least (suc a) b h = omega arith

  -- and q with the twos comes of q d alone
  whole_of : (q : ℕ) → n * i % 2 ^ 64 ≡ q * 2 ^ k → q * d < 2 ^ 64 → n ≡ q * d
  whole_of q product below =
      let turned : n * i * odd ≡ n * (odd * i) = mul_assoc n i odd ∙ ap (λ a. n * a) (mul_comm i odd) in
      let apart : q * 2 ^ k * odd ≡ q * d = mul_assoc q (2 ^ k) odd ∙ ap (λ a. q * a) (mul_comm (2 ^ k) odd ∙ is) in
      let one : n * 1 % 2 ^ 64 ≡ n * i * odd % 2 ^ 64 =
      ap (λ a. n * a % 2 ^ 64) (sym inverse) ∙ mul-mod_second n (odd * i) (2 ^ 64) ∙ ap (λ a. a % 2 ^ 64) (sym turned) in
      let two : n * i * odd % 2 ^ 64 ≡ q * d % 2 ^ 64 =
      sym (mul-mod_first (n * i) odd (2 ^ 64)) ∙ ap (λ a. a * odd % 2 ^ 64) product ∙ ap (λ a. a % 2 ^ 64) apart in
      sym (mod-eq_of_lt word) ∙ ap (λ a. a % 2 ^ 64) (let e : n ≡ n * 1 = omega arith in e) ∙ one ∙ two ∙ mod-eq_of_lt below

  abbrev quotient : ℕ
  quotient = rotate_right w64 (n * i % 2 ^ 64) k

  multiple_below : n % d ≡ 0 → quotient ≤ (2 ^ 64 - 1) / d
  multiple_below none =
      let q = n / d in
      let whole : n ≡ q * d = omega (arith, div-add-mod' n d, none) in
      let product = product_of q whole in
      let least : q * 2 ^ k < 2 ^ 64 = omega (arith, product, mod_below (n * i) (2 ^ 64) (omega arith)) in
      let is_q : quotient ≡ q = ap (λ a. rotate_right w64 a k) product ∙ rotated_multiple q k few least in
      omega (arith, is_q, le-div q (2 ^ 64 - 1) d some (omega (arith, whole)))

  below_multiple : quotient ≤ (2 ^ 64 - 1) / d → n % d ≡ 0
  below_multiple below =
      let y = n * i % 2 ^ 64 in
      let most : (2 ^ 64 - 1) / d * d ≤ 2 ^ 64 - 1 = div-mul-le_self (2 ^ 64 - 1) d in
      let fits : quotient * d ≤ (2 ^ 64 - 1) / d * d = mul-le-mul_right d below in
      ⊎_elim
      (λ (z : y % 2 ^ k < 1).
      let q = y / 2 ^ k in
      let product : y ≡ q * 2 ^ k = omega (arith, div-add-mod' y (2 ^ k), z) in
      let least : q * 2 ^ k < 2 ^ 64 = omega (arith, product, mod_below (n * i) (2 ^ 64) (omega arith)) in
      let is_q : quotient ≡ q = ap (λ a. rotate_right w64 a k) product ∙ rotated_multiple q k few least in
      let same = ap (λ a. a * d) is_q in
      ap (λ n. n % d) (whole_of q product (omega (arith, same, fits, most))) ∙ mul-mod_left q d)
      (λ some_low.
      let high : 2 ^ (64 - k) ≤ quotient = rotated_other y k few (omega (arith, some_low)) in
      let wide : 2 ^ (64 - k) * d ≤ quotient * d = mul-le-mul_right d high in
      let twice : 2 ^ (64 - k) * 2 ^ k ≤ 2 ^ (64 - k) * d = mul-le-mul_left (2 ^ (64 - k)) (at_least odd (2 ^ k) d some is) in
      let all : 2 ^ (64 - k) * 2 ^ k ≡ 2 ^ 64 = mul_comm (2 ^ (64 - k)) (2 ^ k) ∙ powers k (omega arith) in
      absurd (omega (arith, wide, twice, fits, most, all)))
      (cases_lt (y % 2 ^ k) 1)
    where
      at_least : (a b d : ℕ) → 0 < d → a * b ≡ d → b ≤ d
      at_least zero b d h e = absurd (omega arith)
      at_least (suc a) b d h e = omega arith

  -- The product turned by the twos is at most the greatest quotient exactly where d divides n.
  pub multiples : (q most : ℕ) → q ≡ rotate_right w64 (n * i % 2 ^ 64) k → most ≡ (2 ^ 64 - 1) / d → leb q most ≡ nat_eq (n % d) 0
  multiples q most is_q is_most =
      let to : q ≤ most → n % d ≡ 0 = λ h. below_multiple (omega (arith, is_q, is_most)) in
      let from : n % d ≡ 0 → q ≤ most = λ h. omega (arith, is_q, is_most, multiple_below h) in
      tests q most (n % d) to from
    where
      tests : (a b c : ℕ) → (a ≤ b → c ≡ 0) → (c ≡ 0 → a ≤ b) → leb a b ≡ nat_eq c 0
      tests a b c f g = ⊎_elim
          (λ (h : a < suc b). let z = f (omega arith) in grind (arith, nat_tests))
          (λ h. ⊎_elim (λ (z : c < 1). absurd (let k = g (omega arith) in omega arith)) (λ z. grind (arith, nat_tests)) (cases_lt c 1))
          (cases_lt a (suc b))
