-- The last of parts that fall.
use Rattle.std.specs.Prelude.{◌≡◌, ◌≢◌, ◌≤◌, ℕ, List, [], ◌∷◌, ◌++◌, All, Bool, Contains, None, Option, Some, true, false, is_some, length, refl, reverse, slice_get, zero, suc, ◌+◌, ◌-◌, ◌<◌, ◌==◌, nat_lt}
use Rattle.std.proofs.Common.{sym, ap, subst, arith, true≢false, ltb-true, ltb-false}
use Rattle.std.proofs.lemmas.List.{reverse-append}
use Rattle.std.proofs.lemmas.List.Elements.{All-nil, All-cons, All-head, All-tail, All-append, All-weaker, All-contains_itself}
use Rattle.std.proofs.lemmas.List.Sorted.{All-permutation, IsPermutation-reverse, IsPermutation-sym}
use Rattle.placed_containers.specs.declared.pieces.Part.{Part}
use Rattle.placed_containers.specs.Ways.{begin_of, end_of, HasPart, IsFalling}
use Rattle.placed_containers.proofs.Anys.{any-among}

pub all-front : {X : Type 0} (P : X → Type 0) (xs ys : List X) → All P (xs ++ ys) → All P xs
all-front P [] ys h = All-nil P
all-front P (x ∷ xs) ys h = All-cons P x xs (All-head P x (xs ++ ys) h) (all-front P xs ys (All-tail P x (xs ++ ys) h))

pub all-back : {X : Type 0} (P : X → Type 0) (xs ys : List X) → All P (xs ++ ys) → All P ys
all-back P [] ys h = h
all-back P (x ∷ xs) ys h = all-back P xs ys (All-tail P x (xs ++ ys) h)

module _ {A : Type 0} where
  -- the rest still falls, and begins no earlier
  pub falling-front : (xs : List (Part A)) (x : Part A) → IsFalling (xs ++ x ∷ []) → IsFalling xs
  falling-front [] x h = tt
  falling-front (y ∷ xs) x h = (all-front (λ z. begin_of z ≤ begin_of y) xs (x ∷ []) h.0, falling-front xs x h.1)

  pub falling-above : (xs : List (Part A)) (x : Part A) → IsFalling (xs ++ x ∷ []) → All (λ r. begin_of x ≤ begin_of r) xs
  falling-above [] x h = All-nil (λ r. begin_of x ≤ begin_of r)
  falling-above (y ∷ xs) x h =
      let low : begin_of x ≤ begin_of y = All-head (λ z. begin_of z ≤ begin_of y) x [] (all-back (λ z. begin_of z ≤ begin_of y) xs (x ∷ []) h.0) in
      All-cons (λ r. begin_of x ≤ begin_of r) y xs low (falling-above xs x h.1)

  -- above a place that the last is apart from, all are
  pub all-apart : (xs : List (Part A)) (x : Part A) (place : ℕ) → IsFalling (xs ++ x ∷ []) → place ≤ begin_of x → begin_of x ≢ place → All (λ r. begin_of r ≢ place) (xs ++ x ∷ [])
  all-apart xs x place falls low apart =
      All-append (λ r. begin_of r ≢ place) xs (x ∷ [])
      (All-weaker (λ r. begin_of x ≤ begin_of r) (λ r. begin_of r ≢ place) (λ r above e. apart (omega (arith, low, above, e))) xs (falling-above xs x falls))
      (All-cons (λ r. begin_of r ≢ place) x [] apart (All-nil (λ r. begin_of r ≢ place)))

  pub last-first : (xs all : List (Part A)) (x : Part A) → all ≡ xs ++ x ∷ [] → reverse all ≡ x ∷ reverse xs
  last-first xs all x e = subst (λ l. reverse l ≡ x ∷ reverse xs) (sym e) (reverse-append xs (x ∷ []))

  pub all-reverse : (P : Part A → Type 0) (xs : List (Part A)) → All P xs → All P (reverse xs)
  all-reverse P xs h = All-permutation P xs (reverse xs) (IsPermutation-reverse xs) h

  pub has-reverse : (xs : List (Part A)) (p q : ℕ) → HasPart xs p q → HasPart (reverse xs) p q
  has-reverse xs p q t = any-among (λ part. (begin_of part ≡ p) × (end_of part ≡ q)) xs (reverse xs)
      (All-permutation (Contains (reverse xs)) (reverse xs) xs (IsPermutation-sym xs (reverse xs) (IsPermutation-reverse xs)) (All-contains_itself (reverse xs))) t

  pub has-unreverse : (xs : List (Part A)) (p q : ℕ) → HasPart (reverse xs) p q → HasPart xs p q
  has-unreverse xs p q t = any-among (λ part. (begin_of part ≡ p) × (end_of part ≡ q)) (reverse xs) xs
      (All-permutation (Contains xs) xs (reverse xs) (IsPermutation-reverse xs) (All-contains_itself xs)) t

none-some : {X : Type 0} {x : X} → None ≡ Some x → ⊥
none-some h = cc

same-some : {X : Type 0} {x y : X} → Some x ≡ Some y → x ≡ y
same-some h = cc

at-end : {X : Type 0} (x y : X) (xs : List X) (n : ℕ) → n ≡ length xs → slice_get (y ∷ xs) n ≡ Some x → (front : List X) × (y ∷ xs ≡ front ++ x ∷ [])
at-end x y [] zero e h = ([], ap (λ z. z ∷ []) (same-some h))
at-end x y [] (suc n) e h = absurd (omega (arith, e))
at-end x y (z ∷ xs) zero e h = absurd (omega (arith, e))
at-end x y (z ∷ xs) (suc n) e h = let rest = at-end x z xs n (omega (arith, e)) h in (y ∷ rest.0, ap (λ l. y ∷ l) rest.1)

-- a list by its last element
pub last-split : {X : Type 0} (xs : List X) (x : X) → slice_get xs (length xs - 1) ≡ Some x → (front : List X) × (xs ≡ front ++ x ∷ [])
last-split [] x h = absurd (none-some h)
last-split (y ∷ xs) x h =
    let at : length (y ∷ xs) - 1 ≡ length xs = omega arith in
    at-end x y xs (length xs) refl (subst (λ k. slice_get (y ∷ xs) k ≡ Some x) at h)

pub none-of : {X : Type 0} (o : Option X) → is_some o ≡ false → o ≡ None
none-of None h = refl
none-of (Some x) h = absurd (true≢false h)

pub some-of : (n : ℕ) → (n == 0) ≡ false → 0 < n
some-of zero h = absurd (true≢false h)
some-of (suc n) h = omega arith

pub below-apart : (m n : ℕ) → m ≤ n → m ≢ n → m < n
below-apart m n le apart = at (nat_lt m n) refl
  where
    at : (b : Bool) → nat_lt m n ≡ b → m < n
    at true e = ltb-true m n e
    at false e = let up = ltb-false m n e in absurd (apart (omega (arith, le, up)))
