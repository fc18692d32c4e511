-- A part of a list.
use Rattle.std.specs.Prelude.{◌≡◌, ℕ, zero, suc, ◌+◌, ◌-◌, ◌/◌, ◌<◌, ◌≤◌, List, [], ◌∷◌, length, take, drop, map, refl}
use Rattle.std.proofs.Common.{ap, sym, ◌∙◌, arith, get_or}
use Rattle.std.proofs.lemmas.List.{length-map, length-take-le, length-drop, drop-take, take-map, drop-map}
use Rattle.std.proofs.Math.Seq.{drop-cons}

-- the members from one place up to, not including, another
abbrev pub section : {X : Type 0} → ℕ → ℕ → List X → List X
section from to xs = take (to - from) (drop from xs)

pub length-section : {X : Type 0} (from to : ℕ) (xs : List X) → from ≤ to → to ≤ length xs → length (section from to xs) ≡ to - from
length-section from to xs ordered within =
    let rest = length-drop from xs in
    length-take-le (to - from) (drop from xs) (omega arith)

pub section-first : {X : Type 0} (from to : ℕ) (xs : List X) (d : X) → from < to → to ≤ length xs → section from to xs ≡ get_or xs from d ∷ section (from + 1) to xs
section-first from to xs d some within =
    let count : to - from ≡ suc (to - (from + 1)) = omega arith in
    let next : suc from ≡ from + 1 = omega arith in
    ap (λ k. take k (drop from xs)) count ∙ ap (take (suc (to - (from + 1)))) (drop-cons xs from d (omega arith)) ∙ ap (λ k. get_or xs from d ∷ take (to - (from + 1)) (drop k xs)) next

take-take : {X : Type 0} (n m : ℕ) (xs : List X) → n ≤ m → take n (take m xs) ≡ take n xs
take-take zero m xs h = refl
take-take (suc n) zero xs h = absurd (omega arith)
take-take (suc n) (suc m) [] h = refl
take-take (suc n) (suc m) (x ∷ xs) h = ap (λ ys. x ∷ ys) (take-take n m xs (omega arith))

drop-drop : {X : Type 0} (n m : ℕ) (xs : List X) → drop n (drop m xs) ≡ drop (m + n) xs
drop-drop n zero xs =
    let count : n ≡ 0 + n = omega arith in
    ap (λ k. drop k xs) count
drop-drop zero (suc m) [] =
    let count : suc m ≡ suc m + 0 = omega arith in
    ap (λ k. drop k []) count
drop-drop (suc n) (suc m) [] =
    let count : suc (m + suc n) ≡ suc m + suc n = omega arith in
    ap (λ k. drop k []) count
drop-drop n (suc m) (x ∷ xs) =
    let count : suc (m + n) ≡ suc m + n = omega arith in
    drop-drop n m xs ∙ ap (λ k. drop k (x ∷ xs)) count

pub take-section : {X : Type 0} (from to n : ℕ) (xs : List X) → n ≤ to - from → take n (section from to xs) ≡ section from (from + n) xs
take-section from to n xs h =
    let count : n ≡ from + n - from = omega arith in
    take-take n (to - from) (drop from xs) h ∙ ap (λ k. take k (drop from xs)) count

pub drop-section : {X : Type 0} (from to n : ℕ) (xs : List X) → n ≤ to - from → drop n (section from to xs) ≡ section (from + n) to xs
drop-section from to n xs h =
    let count : to - from ≡ n + (to - (from + n)) = omega arith in
    ap (λ k. drop n (take k (drop from xs))) count ∙ drop-take n (to - (from + n)) (drop from xs) ∙ ap (take (to - (from + n))) (drop-drop n from xs)

-- a section is cut in half as its image is
pub halves-section : {X Y : Type 0} (f : X → Y) (from to : ℕ) (xs : List X) → from ≤ to → to ≤ length xs → 2 ≤ to - from
    → (2 ≤ length (map f (section from to xs)))
    × (map f (section from (from + (to - from) / 2) xs) ≡ take (length (map f (section from to xs)) / 2) (map f (section from to xs)))
    × (map f (section (from + (to - from) / 2) to xs) ≡ drop (length (map f (section from to xs)) / 2) (map f (section from to xs)))
halves-section f from to xs ordered within two =
    let n = (to - from) / 2 in
    let count = length-map (section from to xs) f ∙ length-section from to xs ordered within in
    let half = ap (λ k. k / 2) (sym count) in
    let le : n ≤ to - from = omega arith in (
      omega arith,
      ap (map f) (sym (take-section from to n xs le)) ∙ sym (take-map f n (section from to xs)) ∙ ap (λ k. take k (map f (section from to xs))) half,
      ap (map f) (sym (drop-section from to n xs le)) ∙ sym (drop-map f n (section from to xs)) ∙ ap (λ k. drop k (map f (section from to xs))) half,
    )
