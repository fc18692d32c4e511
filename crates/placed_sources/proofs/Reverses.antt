-- A list from its back, as it is cut.
use Rattle.std.specs.Prelude.{◌≡◌, ◌<◌, ◌≤◌, ◌-◌, ◌+◌, ℕ, List, [], ◌∷◌, ◌++◌, length, take, drop, map, min, nat_lt, reverse, refl}
use Rattle.std.proofs.Common.{append-nil, ap, sym, ◌∙◌, arith}
use Rattle.std.proofs.lemmas.List.{reverse-append, take-append-drop, take_at, drop_at, take_min, drop_min, length-reverse, length-append, length-drop, map-append, nil_from_length}
use Rattle.std.proofs.lemmas.Bool.Decides.{nat_tests}
use Rattle.stages.specs.Tests.{either}

module _ {X : Type 0} where
  halves : (k : ℕ) (xs : List X) → reverse xs ≡ reverse (drop k xs) ++ reverse (take k xs)
  halves k xs = ap reverse (sym (take-append-drop k xs)) ∙ reverse-append (take k xs) (drop k xs)

  back : (m : ℕ) (xs : List X) → length (reverse (drop (length xs - m) xs)) ≡ min m (length (reverse xs))
  back m xs = omega (arith, length-reverse (drop (length xs - m) xs), length-drop (length xs - m) xs, length-reverse xs)

  pub take-reverse : (m : ℕ) (xs : List X) → take m (reverse xs) ≡ reverse (drop (length xs - m) xs)
  take-reverse m xs =
      let k = length xs - m in
      sym (take_min m (reverse xs))
      ∙ ap (take (min m (length (reverse xs)))) (halves k xs)
      ∙ take_at (reverse (drop k xs)) (reverse (take k xs)) (min m (length (reverse xs))) (back m xs)

  pub drop-reverse : (m : ℕ) (xs : List X) → drop m (reverse xs) ≡ reverse (take (length xs - m) xs)
  drop-reverse m xs =
      let k = length xs - m in
      sym (drop_min m (reverse xs))
      ∙ ap (drop (min m (length (reverse xs)))) (halves k xs)
      ∙ drop_at (reverse (drop k xs)) (reverse (take k xs)) (min m (length (reverse xs))) (back m xs)

  -- the last item comes first
  pub last-first : (xs : List X) (x : X) (rest : List X) → drop (length xs - 1) xs ≡ x ∷ rest → reverse xs ≡ x ∷ reverse (take (length xs - 1) xs)
  last-first xs x rest e =
      let long = ap length e in
      let none : length rest ≡ 0 = omega (arith, length-drop (length xs - 1) xs, long) in
      halves (length xs - 1) xs
      ∙ ap (λ ys. reverse ys ++ reverse (take (length xs - 1) xs)) (e ∙ ap (λ ys. x ∷ ys) (nil_from_length rest none))

  -- there is a last item
  pub some-last : (xs : List X) → 0 < length xs → drop (length xs - 1) xs ≡ [] → ⊥
  some-last xs some e = let long : length (drop (length xs - 1) xs) ≡ 0 = ap length e in omega (arith, length-drop (length xs - 1) xs)

  -- a block that is read from the place where so many are left, turned round, is the next block
  module _ (most k : ℕ) (xs block rest : List X) (place : k ≡ length xs - most) (parts : drop k xs ≡ block ++ rest)
      (within : length block ≤ most) (ended : length block < most → rest ≡ []) where
    long : length block + length rest ≡ length xs - k
    long = sym (length-append block rest) ∙ sym (ap length parts) ∙ length-drop k xs

    none : rest ≡ []
    none =
        either (nat_lt (length block) most)
        (λ h. let short : length block < most = grind (arith, nat_tests) in ended short)
        (λ h. let full : most ≤ length block = grind (arith, nat_tests) in nil_from_length rest (omega (arith, long)))

    pub block-moved : reverse xs ≡ reverse block ++ reverse (take k xs)
    block-moved = halves k xs ∙ ap (λ ys. reverse ys ++ reverse (take k xs)) (parts ∙ ap (λ r. block ++ r) none ∙ append-nil block)

-- what is turned round has the same images
pub map-reverse : {X Y : Type 0} (f : X → Y) (xs : List X) → map f (reverse xs) ≡ reverse (map f xs)
map-reverse f [] = refl
map-reverse f (x ∷ xs) =
    ap (map f) (reverse-append (x ∷ []) xs) ∙ map-append f (reverse xs) (x ∷ []) ∙ ap (λ l. l ++ f x ∷ []) (map-reverse f xs)
    ∙ sym (reverse-append (f x ∷ []) (map f xs))
