-- What stands at every so many places, as a list is cut.
use Rattle.std.specs.Prelude.{◌≡◌, ◌<◌, ◌≤◌, ◌-◌, ◌+◌, ◌*◌, ℕ, List, [], ◌∷◌, ◌++◌, length, take, drop, min, nat_lt, refl}
use Rattle.std.proofs.Common.{zero, suc, zero-le, ap, ap₂, sym, append-nil, ◌∙◌, arith, suc-mul, zero-mul, lt_of_mul-lt-mul_right}
use Rattle.std.proofs.lemmas.List.{drop-take, take-take, drop-drop, take_min, drop_min, take_all, drop_all, take_at, drop_at, length-append}
use Rattle.std.proofs.lemmas.Bool.Decides.{nat_tests}
use Rattle.stages.specs.Tests.{either}
use Rattle.placed_sources.specs.Steps.{at_steps, chunks}

abbrev nil : (X : Type 0) → List X
nil X = []

drop-nil : {X : Type 0} (n : ℕ) → drop n (nil X) ≡ nil X
drop-nil zero = refl
drop-nil (suc n) = refl

take-nil : {X : Type 0} (n : ℕ) → take n (nil X) ≡ nil X
take-nil zero = refl
take-nil (suc n) = refl

module _ {X Y : Type 0} (image : X → List X → Y) where
  -- what stands so many places away, is what stands there behind as many items
  pub at_steps-away : (step away : ℕ) (xs : List X) → at_steps image step away xs ≡ at_steps image step 0 (drop away xs)
  at_steps-away step zero xs = refl
  at_steps-away step (suc away) [] = refl
  at_steps-away step (suc away) (x ∷ xs) = at_steps-away step away xs

  pub at_steps-cons : (step : ℕ) (x : X) (xs : List X) → at_steps image step 0 (x ∷ xs) ≡ image x xs ∷ at_steps image step 0 (drop (step - 1) xs)
  at_steps-cons step x xs = ap (λ ys. image x xs ∷ ys) (at_steps-away step (step - 1) xs)

  pub drop-at_steps : (m number : ℕ) (xs : List X) → at_steps image (suc m) 0 (drop (number * suc m) xs) ≡ drop number (at_steps image (suc m) 0 xs)
  drop-at_steps m zero xs = ap (λ n. at_steps image (suc m) 0 (drop n xs)) (zero-mul (suc m))
  drop-at_steps m (suc number) [] = ap (at_steps image (suc m) 0) (drop-nil (suc number * suc m))
  drop-at_steps m (suc number) (x ∷ xs) =
      let count : suc number * suc m ≡ suc (m + number * suc m) = suc-mul number (suc m) ∙ omega arith in
      let less : suc m - 1 ≡ m = omega arith in
      ap (λ n. at_steps image (suc m) 0 (drop n (x ∷ xs))) count
      ∙ ap (at_steps image (suc m) 0) (sym (drop-drop (number * suc m) m xs))
      ∙ drop-at_steps m number (drop m xs)
      ∙ ap (λ n. drop number (at_steps image (suc m) 0 (drop n xs))) (sym less)
      ∙ ap (λ ys. drop (suc number) ys) (sym (at_steps-cons (suc m) x xs))

  module _ (m : ℕ) (near : (x : X) (xs : List X) (k : ℕ) → image x (take (m + k) xs) ≡ image x xs) where
    pub take-at_steps : (number : ℕ) (xs : List X) → at_steps image (suc m) 0 (take (number * suc m) xs) ≡ take number (at_steps image (suc m) 0 xs)
    take-at_steps zero xs = ap (λ n. at_steps image (suc m) 0 (take n xs)) (zero-mul (suc m))
    take-at_steps (suc number) [] = ap (at_steps image (suc m) 0) (take-nil (suc number * suc m))
    take-at_steps (suc number) (x ∷ xs) =
        let count : suc number * suc m ≡ suc (m + number * suc m) = suc-mul number (suc m) ∙ omega arith in
        let less : suc m - 1 ≡ m = omega arith in
        ap (λ n. at_steps image (suc m) 0 (take n (x ∷ xs))) count
        ∙ at_steps-cons (suc m) x (take (m + number * suc m) xs)
        ∙ ap (λ n. image x (take (m + number * suc m) xs) ∷ at_steps image (suc m) 0 (drop n (take (m + number * suc m) xs))) less
        ∙ ap (λ ys. image x (take (m + number * suc m) xs) ∷ at_steps image (suc m) 0 ys) (drop-take m (number * suc m) xs)
        ∙ ap (λ y. y ∷ at_steps image (suc m) 0 (take (number * suc m) (drop m xs))) (near x xs (number * suc m))
        ∙ ap (λ ys. image x xs ∷ ys) (take-at_steps number (drop m xs))
        ∙ ap (λ n. take (suc number) (image x xs ∷ at_steps image (suc m) 0 (drop n xs))) (sym less)
        ∙ ap (take (suc number)) (sym (at_steps-cons (suc m) x xs))

-- how many there are: the least number whose product with the step is no less than the length
module _ {X Y : Type 0} (image : X → List X → Y) (m : ℕ) where
  reach : (away : ℕ) (xs : List X) → away ≤ m
      → (length xs ≤ away + length (at_steps image (suc m) away xs) * suc m)
      × (away + length (at_steps image (suc m) away xs) * suc m < length xs + suc m)
  reach away [] h = (zero-le, omega (arith, zero-mul (suc m)))
  reach zero (x ∷ xs) h =
      let less : suc m - 1 ≡ m = omega arith in
      let rest = reach (suc m - 1) xs (omega arith) in
      let more = suc-mul (length (at_steps image (suc m) (suc m - 1) xs)) (suc m) in
      (omega (arith, rest.0, more), omega (arith, rest.1, more))
  reach (suc away) (x ∷ xs) h =
      let rest = reach away xs (omega arith) in
      (omega (arith, rest.0), omega (arith, rest.1))

  apart : (a b n : ℕ) → n ≤ a * suc m → b * suc m < n + suc m → b ≤ a
  apart a b n above below =
      let more = suc-mul a (suc m) in
      let less : b * suc m < suc a * suc m = omega (arith, more) in
      let h : b < suc a = lt_of_mul-lt-mul_right (suc m) less in
      omega arith

  pub length-at_steps : (c : ℕ) (xs : List X) → length xs ≤ c * suc m → c * suc m < length xs + suc m → length (at_steps image (suc m) 0 xs) ≡ c
  length-at_steps c xs above below =
      let here = reach 0 xs zero-le in
      let l = length (at_steps image (suc m) 0 xs) in
      let first : l ≤ c = apart c l (length xs) above (omega (arith, here.1)) in
      let second : c ≤ l = apart l c (length xs) (omega (arith, here.0)) below in
      omega arith

-- the same of a step that isn't 0
module _ {X Y : Type 0} (image : X → List X → Y) where
  pub count-steps : (n c : ℕ) (xs : List X) → 0 < n → length xs ≤ c * n → c * n < length xs + n → c ≡ length (at_steps image n 0 xs)
  count-steps zero c xs some above below = absurd (omega arith)
  count-steps (suc m) c xs some above below = sym (length-at_steps image m c xs above below)

  pub drop-steps : (n number k : ℕ) (xs : List X) → 0 < n → k ≡ min (number * n) (length xs) → at_steps image n 0 (drop k xs) ≡ drop number (at_steps image n 0 xs)
  drop-steps zero number k xs some e = absurd (omega arith)
  drop-steps (suc m) number k xs some e =
      ap (λ n. at_steps image (suc m) 0 (drop n xs)) e ∙ ap (at_steps image (suc m) 0) (drop_min (number * suc m) xs) ∙ drop-at_steps image m number xs

  pub take-steps : (n number k : ℕ) (xs : List X) → 0 < n → ((x : X) (xs : List X) (k : ℕ) → image x (take (n - 1 + k) xs) ≡ image x xs)
      → k ≡ min (number * n) (length xs) → at_steps image n 0 (take k xs) ≡ take number (at_steps image n 0 xs)
  take-steps zero number k xs some near e = absurd (omega arith)
  take-steps (suc m) number k xs some near e =
      let less : suc m - 1 ≡ m = omega arith in
      ap (λ n. at_steps image (suc m) 0 (take n xs)) e ∙ ap (at_steps image (suc m) 0) (take_min (number * suc m) xs)
      ∙ take-at_steps image m (λ y ys j. ap (λ n. image y (take (n + j) ys)) (sym less) ∙ near y ys j) number xs

-- a chunk looks no farther than its size
pub near-chunk : {X : Type 0} (n : ℕ) (x : X) (xs : List X) (k : ℕ) → take n (x ∷ take (n - 1 + k) xs) ≡ take n (x ∷ xs)
near-chunk zero x xs k = refl
near-chunk (suc m) x xs k = ap (λ ys. x ∷ ys) (take-take m (suc m - 1 + k) xs (omega arith))

module _ {X : Type 0} where
  take-block : (n : ℕ) (block rest : List X) → length block ≤ n → (length block < n → rest ≡ []) → take n (block ++ rest) ≡ block
  take-block n block rest most ended =
      either (nat_lt (length block) n)
      (λ h. let short : length block < n = grind (arith, nat_tests) in
      ap (λ r. take n (block ++ r)) (ended short) ∙ ap (take n) (append-nil block) ∙ take_all n block most)
      (λ h. let long : length block ≡ n = grind (arith, nat_tests) in take_at block rest n long)

  drop-block : (n : ℕ) (block rest : List X) → length block ≤ n → (length block < n → rest ≡ []) → drop n (block ++ rest) ≡ rest
  drop-block n block rest most ended =
      either (nat_lt (length block) n)
      (λ h. let short : length block < n = grind (arith, nat_tests) in
      ap (λ r. drop n (block ++ r)) (ended short) ∙ ap (drop n) (append-nil block) ∙ drop_all n block most ∙ sym (ended short))
      (λ h. let long : length block ≡ n = grind (arith, nat_tests) in drop_at block rest n long)

  chunks-cons : (n : ℕ) (xs : List X) → 0 < n → 0 < length xs → chunks n xs ≡ take n xs ∷ chunks n (drop n xs)
  chunks-cons zero xs some h = absurd (omega arith)
  chunks-cons (suc m) [] some h = absurd (omega arith)
  chunks-cons (suc m) (x ∷ xs) some h =
      let less : suc m - 1 ≡ m = omega arith in
      at_steps-cons (λ y rest. take (suc m) (y ∷ rest)) (suc m) x xs ∙ ap (λ n. take (suc m) (x ∷ xs) ∷ chunks (suc m) (drop n xs)) less

  -- what is read in front is the first chunk
  pub chunk-first : (n : ℕ) (xs block rest : List X) → 0 < n → xs ≡ block ++ rest → length block ≤ n → (length block < n → rest ≡ []) → 0 < length block
      → chunks n xs ≡ block ∷ chunks n rest
  chunk-first n xs block rest some e most ended nonempty =
      let long : 0 < length (block ++ rest) = omega (arith, length-append block rest) in
      ap (chunks n) e ∙ chunks-cons n (block ++ rest) some long
      ∙ ap₂ (λ b (r : List X). b ∷ chunks n r) (take-block n block rest most ended) (drop-block n block rest most ended)
