-- Parts in the order of a sort.
use Rattle.std.specs.Prelude.{◌≡◌, ◌+◌, ◌<◌, ◌≤◌, ◌==◌, ℕ, suc, Bool, true, false, List, [], ◌∷◌, length, cond, nat_lt, refl, slice_index_or}
use Rattle.std.proofs.Common.{arith, true≢false, ltb-false, nat_cmp, is_lt, Ordering, Less, Equal, Greater, le_trans, zero-le, subst, add-one}
use Rattle.std.specs.Ordering.{ordering_then}
use Rattle.std.proofs.lemmas.List.Elements.{All-nil, All-cons, All-weaker}
use Rattle.placed_containers.specs.declared.pieces.Part.{Part}
use Rattle.placed_containers.specs.Ways.{begin_of, end_of, IsFalling}

-- a number that isn't below another, where further things decide between equal ones
pub lower : (m n : ℕ) (o : Ordering) → is_lt (ordering_then (nat_cmp m n) o) ≡ false → n ≤ m
lower m n o h = at (nat_lt m n) (cond (m == n) Equal Greater) refl h
  where
    at : (b : Bool) (rest : Ordering) → nat_lt m n ≡ b → is_lt (ordering_then (cond b Less rest) o) ≡ false → n ≤ m
    at true rest e h = absurd (true≢false h)
    at false rest e h = ltb-false m n e

module _ {A : Type 0} where
  falling : (xs : List (Part A)) → ((k : ℕ) (d : Part A) → suc k < length xs → begin_of (slice_index_or xs (suc k) d) ≤ begin_of (slice_index_or xs k d)) → IsFalling xs
  falling [] h = tt
  falling (x ∷ []) h = (All-nil (λ y. begin_of y ≤ begin_of x), tt)
  falling (x ∷ y ∷ xs) h =
      let next : begin_of y ≤ begin_of x = h 0 x (omega arith) in
      let rest : IsFalling (y ∷ xs) = falling (y ∷ xs) (λ k d lt. h (suc k) d (omega (arith, lt))) in
      (All-cons (λ z. begin_of z ≤ begin_of x) y xs next (All-weaker (λ z. begin_of z ≤ begin_of y) (λ z. begin_of z ≤ begin_of x) (λ z le. le_trans le next) xs rest.0), rest)

  -- sorted by the begin, and then by the end, from the last to the first
  pub falling-sorted : (xs : List (Part A)) → ((k : ℕ) (d : Part A) → 0 ≤ k → k + 1 < length xs
      → is_lt (ordering_then (nat_cmp (begin_of (slice_index_or xs k d)) (begin_of (slice_index_or xs (k + 1) d))) (nat_cmp (end_of (slice_index_or xs k d)) (end_of (slice_index_or xs (k + 1) d)))) ≡ false) → IsFalling xs
  falling-sorted xs sorted = falling xs (λ k d lt.
      let at : k + 1 < length xs = omega (arith, lt) in
      subst (λ m. begin_of (slice_index_or xs m d) ≤ begin_of (slice_index_or xs k d)) (add-one k)
      (lower (begin_of (slice_index_or xs k d)) (begin_of (slice_index_or xs (k + 1) d)) (nat_cmp (end_of (slice_index_or xs k d)) (end_of (slice_index_or xs (k + 1) d))) (sorted k d zero-le at)))
