-- The place of a bound among consecutive integers.
use Rattle.std.specs.Prelude.{◌≡◌, ℕ, zero, suc, ◌+◌, ◌-◌, ◌^◌, ◌<◌, ◌≤◌, min, ℤ, pos, ◌+ℤ◌, ◌-ℤ◌, ◌<ℤ◌, ◌≤ℤ◌, nat_abs, FitsSigned, int_lt, int_le, true, false, ◌∷◌, cond, filter, take, drop, refl}
use Rattle.std.proofs.Common.{w64, to_z, of_z, ap, ◌∙◌, arith}
use Rattle.std.proofs.lemmas.Int.{ints}
use Rattle.sources.specs.Integers.{integers}

is_below : (x b : ℤ) → x <ℤ b → int_lt x b ≡ true
is_below x b h = grind (arith, ints)

isn't_below : (x b : ℤ) → b ≤ℤ x → int_lt x b ≡ false
isn't_below x b h = grind (arith, ints)

-- k of n integers from a on are below b
pub record CountsBelow (a : ℤ) (n k : ℕ) (b : ℤ) : Type 0 where
  pub within : k ≤ n
  pub low : 0 < k → (a +ℤ pos k) ≤ℤ b
  pub high : k < n → b ≤ℤ (a +ℤ pos k)

rest : (a : ℤ) (n k : ℕ) (b : ℤ) → CountsBelow a (suc n) (suc k) b → CountsBelow (a +ℤ pos 1) n k b
rest a n k b h = record {
  within = (let w = h.within in omega arith);
  low = λ some. (let l = h.low (omega arith) in omega (arith, ints));
  high = λ fewer. (let g = h.high (omega arith) in omega (arith, ints));
}

none : (a : ℤ) (n : ℕ) (b : ℤ) → CountsBelow a (suc n) 0 b → CountsBelow (a +ℤ pos 1) n 0 b
none a n b h = record {
  within = omega arith;
  low = λ some. absurd (omega arith);
  high = λ fewer. (let g = h.high (omega arith) in omega (arith, ints));
}

pub filter-below : (a : ℤ) (n k : ℕ) (b : ℤ) → CountsBelow a n k b → filter (λ x. int_lt x b) (integers a n) ≡ take k (integers a n)
filter-below a zero zero b h = refl
filter-below a zero (suc k) b h = absurd (let w = h.within in omega arith)
filter-below a (suc n) zero b h =
    let kept = filter (λ x. int_lt x b) (integers (a +ℤ pos 1) n) in
    ap (λ t. cond t (a ∷ kept) kept) (isn't_below a b (let g = h.high (omega arith) in omega (arith, ints)))
    ∙ filter-below (a +ℤ pos 1) n zero b (none a n b h)
filter-below a (suc n) (suc k) b h =
    let kept = filter (λ x. int_lt x b) (integers (a +ℤ pos 1) n) in
    ap (λ t. cond t (a ∷ kept) kept) (is_below a b (let l = h.low (omega arith) in omega (arith, ints)))
    ∙ ap (λ l. a ∷ l) (filter-below (a +ℤ pos 1) n k b (rest a n k b h))

-- those above b are what follows those below b + 1
pub filter-above : (a : ℤ) (n k : ℕ) (b : ℤ) → CountsBelow a n k (b +ℤ pos 1) → filter (λ x. int_lt b x) (integers a n) ≡ drop k (integers a n)
filter-above a zero zero b h = refl
filter-above a zero (suc k) b h = absurd (let w = h.within in omega arith)
filter-above a (suc n) zero b h =
    let kept = filter (λ x. int_lt b x) (integers (a +ℤ pos 1) n) in
    ap (λ t. cond t (a ∷ kept) kept) (is_below b a (let g = h.high (omega arith) in omega (arith, ints)))
    ∙ ap (λ l. a ∷ l) (filter-above (a +ℤ pos 1) n zero b (none a n (b +ℤ pos 1) h))
filter-above a (suc n) (suc k) b h =
    let kept = filter (λ x. int_lt b x) (integers (a +ℤ pos 1) n) in
    ap (λ t. cond t (a ∷ kept) kept) (isn't_below b a (let l = h.low (omega arith) in omega (arith, ints)))
    ∙ filter-above (a +ℤ pos 1) n k b (rest a n k (b +ℤ pos 1) h)

-- ---- what the calls tell of a bound

at_most : (x y : ℤ) → int_le x y ≡ true → x ≤ℤ y
at_most x y h = grind (arith, ints)

more_than : (x y : ℤ) → int_le x y ≡ false → y <ℤ x
more_than x y h = grind (arith, ints)

less_than : (x y : ℤ) → int_lt x y ≡ true → x <ℤ y
less_than x y h = grind (arith, ints)

at_least : (x y : ℤ) → int_lt x y ≡ false → y ≤ℤ x
at_least x y h = grind (arith, ints)

same : (x : ℤ) → FitsSigned w64 x → to_z w64 (of_z w64 x) ≡ x
same x fits = omega (arith, ints)

module _ (a b : ℤ) (n : ℕ) (first_fits : FitsSigned w64 a) (bound_fits : FitsSigned w64 b) where
  pub none-below : int_le (to_z w64 (of_z w64 b)) (to_z w64 (of_z w64 a)) ≡ true → CountsBelow a n 0 b
  none-below h = record {
    within = omega arith;
    low = λ some. absurd (omega arith);
    high = λ fewer. (let e = same a first_fits in let f = same b bound_fits in let g = at_most (to_z w64 (of_z w64 b)) (to_z w64 (of_z w64 a)) h in omega (arith, ints));
  }

  pub some-below : (d k : ℕ) → int_le (to_z w64 (of_z w64 b)) (to_z w64 (of_z w64 a)) ≡ false
      → d ≡ nat_abs (to_z w64 (of_z w64 b) -ℤ to_z w64 (of_z w64 a)) → k ≡ min d n → CountsBelow a n k b
  some-below d k far way is =
      let e = same a first_fits in let f = same b bound_fits in let g = more_than (to_z w64 (of_z w64 b)) (to_z w64 (of_z w64 a)) far in
      let distance : pos d ≡ b -ℤ a = omega (arith, ints) in
      record {
        within = omega arith;
        low = λ some. omega (arith, ints);
        high = λ fewer. (let full : k ≡ d = omega arith in omega (arith, ints));
      }

  pub none-up_to : int_lt (to_z w64 (of_z w64 b)) (to_z w64 (of_z w64 a)) ≡ true → CountsBelow a n 0 (b +ℤ pos 1)
  none-up_to h = record {
    within = omega arith;
    low = λ some. absurd (omega arith);
    high = λ fewer. (let e = same a first_fits in let f = same b bound_fits in let g = less_than (to_z w64 (of_z w64 b)) (to_z w64 (of_z w64 a)) h in omega (arith, ints));
  }

  pub some-up_to : (d m k : ℕ) → int_lt (to_z w64 (of_z w64 b)) (to_z w64 (of_z w64 a)) ≡ false
      → d ≡ nat_abs (to_z w64 (of_z w64 b) -ℤ to_z w64 (of_z w64 a)) → m ≡ min (d + 1) (2 ^ 64 - 1) → k ≡ min m n → n ≤ 2 ^ 62 → CountsBelow a n k (b +ℤ pos 1)
  some-up_to d m k far way more is few =
      let e = same a first_fits in let f = same b bound_fits in let g = at_least (to_z w64 (of_z w64 b)) (to_z w64 (of_z w64 a)) far in
      let distance : pos d ≡ b -ℤ a = omega (arith, ints) in
      record {
        within = omega arith;
        low = λ some. omega (arith, ints);
        high = λ fewer. (let full : k ≡ d + 1 = omega arith in omega (arith, ints));
      }
