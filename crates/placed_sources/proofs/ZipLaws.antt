-- Pairs of the items at the same places, as they are cut.
use Rattle.std.specs.Prelude.{◌≡◌, ℕ, ◌+◌, ℤ, pos, ◌+ℤ◌, ◌-ℤ◌, List, [], ◌∷◌, length, take, drop, refl}
use Rattle.std.specs.List.{zip}
use Rattle.std.proofs.Common.{zero, suc, ap, ◌∙◌, arith}
use Rattle.std.proofs.lemmas.Int.{ints}
use Rattle.sources.specs.Integers.{integers, integers_between, natural_part}
use Rattle.placed_sources.specs.Zips.{numbered_from}

module _ {A B : Type 0} where
  pub zip-nil : (xs : List A) → zip {X = B} xs [] ≡ []
  zip-nil [] = refl
  zip-nil (x ∷ xs) = refl

  pub take-zip : (n : ℕ) (xs : List A) (ys : List B) → zip (take n xs) (take n ys) ≡ take n (zip xs ys)
  take-zip zero xs ys = refl
  take-zip (suc n) [] ys = refl
  take-zip (suc n) (x ∷ xs) [] = refl
  take-zip (suc n) (x ∷ xs) (y ∷ ys) = ap (λ ps. (x, y) ∷ ps) (take-zip n xs ys)

  pub drop-zip : (n : ℕ) (xs : List A) (ys : List B) → zip (drop n xs) (drop n ys) ≡ drop n (zip xs ys)
  drop-zip zero xs ys = refl
  drop-zip (suc n) [] ys = refl
  drop-zip (suc n) (x ∷ xs) [] = zip-nil (drop n xs)
  drop-zip (suc n) (x ∷ xs) (y ∷ ys) = drop-zip n xs ys

-- the integers from a place on, beside as many items, are their places
pub zip-integers : {C : Type 0} (a : ℤ) (n : ℕ) (xs : List C) → a ≡ pos n → zip (integers a (length xs)) xs ≡ numbered_from n xs
zip-integers a n [] e = refl
zip-integers a n (x ∷ xs) e =
    let next : (a +ℤ pos 1) ≡ pos (n + 1) = omega (arith, ints) in
    ap (λ b. (b, x) ∷ zip (integers (a +ℤ pos 1) (length xs)) xs) e ∙ ap (λ ps. (pos n, x) ∷ ps) (zip-integers (a +ℤ pos 1) (n + 1) xs next)

-- .. and from 0 up to as many
pub zip-counted : {C : Type 0} (b : ℤ) (xs : List C) → b ≡ pos (length xs) → zip (integers_between (pos 0) b) xs ≡ numbered_from 0 xs
zip-counted b xs e =
    let count : (pos (length xs) -ℤ pos 0) ≡ pos (length xs) = omega (arith, ints) in
    ap (λ c. zip (integers_between (pos 0) c) xs) e
    ∙ ap (λ z. zip (integers (pos 0) (natural_part z)) xs) count
    ∙ zip-integers (pos 0) 0 xs refl
