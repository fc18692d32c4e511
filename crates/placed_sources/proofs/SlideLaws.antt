-- Runs of items in a row, as a list is cut.
use Rattle.std.specs.Prelude.{◌≡◌, ◌<◌, ◌≤◌, ◌-◌, ◌+◌, ℕ, true, false, List, [], ◌∷◌, ◌++◌, length, take, drop, min, nat_le, if◌then◌else◌, refl}
use Rattle.std.proofs.Common.{zero, suc, append-nil, ap, sym, ◌∙◌, arith}
use Rattle.std.proofs.lemmas.Bool.Decides.{nat_tests}
use Rattle.std.proofs.lemmas.List.{take-take, length-take, length-drop, nil_from_length, take_min}
use Rattle.stages.specs.Tests.{either}
use Rattle.placed_sources.specs.Slides.{windows}

abbrev nil : (X : Type 0) → List X
nil X = []

module _ {X : Type 0} (m : ℕ) where
  full : (x : X) (xs : List X) → m ≤ length xs → windows (suc m) (x ∷ xs) ≡ take (suc m) (x ∷ xs) ∷ windows (suc m) xs
  full x xs h =
      let is : nat_le (suc m) (suc (length xs)) ≡ true = grind (arith, nat_tests) in
      ap (λ b. if b then take (suc m) (x ∷ xs) ∷ windows (suc m) xs else []) is

  short : (x : X) (xs : List X) → length xs < m → windows (suc m) (x ∷ xs) ≡ []
  short x xs h =
      let is : nat_le (suc m) (suc (length xs)) ≡ false = grind (arith, nat_tests) in
      ap (λ b. if b then take (suc m) (x ∷ xs) ∷ windows (suc m) xs else []) is

  pub length-windows : (xs : List X) → length (windows (suc m) xs) ≡ length xs - m
  length-windows [] = omega arith
  length-windows (x ∷ xs) =
      either (nat_le m (length xs))
      (λ h. let le : m ≤ length xs = grind (arith, nat_tests) in ap length (full x xs le) ∙ omega (arith, length-windows xs))
      (λ h. let lt : length xs < m = grind (arith, nat_tests) in ap length (short x xs lt) ∙ omega arith)

  pub none : (xs : List X) → length xs ≤ m → windows (suc m) xs ≡ []
  none xs h = nil_from_length (windows (suc m) xs) (omega (arith, length-windows xs))

  pub drop-windows : (number : ℕ) (xs : List X) → windows (suc m) (drop number xs) ≡ drop number (windows (suc m) xs)
  drop-windows zero xs = refl
  drop-windows (suc number) [] = refl
  drop-windows (suc number) (x ∷ xs) =
      either (nat_le m (length xs))
      (λ h. let le : m ≤ length xs = grind (arith, nat_tests) in
      drop-windows number xs ∙ ap (drop (suc number)) (sym (full x xs le)))
      (λ h. let lt : length xs < m = grind (arith, nat_tests) in
      none (drop number xs) (omega (arith, length-drop number xs)) ∙ ap (drop (suc number)) (sym (short x xs lt)))

  pub take-windows : (number : ℕ) (xs : List X) → windows (suc m) (take (number + m) xs) ≡ take number (windows (suc m) xs)
  take-windows zero xs = none (take (0 + m) xs) (omega (arith, length-take (0 + m) xs))
  take-windows (suc number) [] = let count : suc number + m ≡ suc (number + m) = omega arith in ap (λ n. windows (suc m) (take n (nil X))) count
  take-windows (suc number) (x ∷ xs) =
      let count : suc number + m ≡ suc (number + m) = omega arith in
      let front = take (number + m) xs in
      let long = length-take (number + m) xs in
      ap (λ n. windows (suc m) (take n (x ∷ xs))) count
      ∙ either (nat_le m (length xs))
      (λ h. let le : m ≤ length xs = grind (arith, nat_tests) in
      full x front (omega (arith, long))
      ∙ ap (λ w. w ∷ windows (suc m) front) (take-take (suc m) (suc (number + m)) (x ∷ xs) (omega arith))
      ∙ ap (λ ws. take (suc m) (x ∷ xs) ∷ ws) (take-windows number xs)
      ∙ ap (take (suc number)) (sym (full x xs le)))
      (λ h. let lt : length xs < m = grind (arith, nat_tests) in
      short x front (omega (arith, long)) ∙ ap (take (suc number)) (sym (short x xs lt)))

-- the same of a size that isn't 0
module _ {X : Type 0} where
  pub count-windows : (n : ℕ) (xs : List X) → 0 < n → length (windows n xs) ≡ length xs - (n - 1)
  count-windows zero xs some = absurd (omega arith)
  count-windows (suc m) xs some = length-windows m xs ∙ omega arith

  pub rest-windows : (n number : ℕ) (xs : List X) → 0 < n → windows n (drop number xs) ≡ drop number (windows n xs)
  rest-windows zero number xs some = absurd (omega arith)
  rest-windows (suc m) number xs some = drop-windows m number xs

  pub first-windows : (n number k : ℕ) (xs : List X) → 0 < n → k ≡ min (number + (n - 1)) (length xs) → windows n (take k xs) ≡ take number (windows n xs)
  first-windows zero number k xs some e = absurd (omega arith)
  first-windows (suc m) number k xs some e =
      let less : number + (suc m - 1) ≡ number + m = omega arith in
      ap (λ j. windows (suc m) (take j xs)) e ∙ ap (windows (suc m)) (take_min (number + (suc m - 1)) xs)
      ∙ ap (λ j. windows (suc m) (take j xs)) less ∙ take-windows m number xs

  -- a list that is too short has none
  pub no-windows : (n : ℕ) (xs block rest : List X) → xs ≡ block ++ rest → length block < n → (length block < n → rest ≡ []) → windows n xs ≡ []
  no-windows zero xs block rest e short ended = absurd (omega arith)
  no-windows (suc m) xs block rest e short ended =
      let same : xs ≡ block = e ∙ ap (λ r. block ++ r) (ended short) ∙ append-nil block in
      ap (windows (suc m)) same ∙ none m block (omega arith)

  -- the first of them
  pub first-window : (n : ℕ) (xs : List X) → 0 < n → n ≤ length xs → windows n xs ≡ take n xs ∷ windows n (drop 1 xs)
  first-window zero xs some h = absurd (omega arith)
  first-window (suc m) [] some h = absurd (omega arith)
  first-window (suc m) (x ∷ xs) some h = full m x xs (omega arith)
