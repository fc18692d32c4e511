-- Fronts of numbers by one step, and what follows them.
use Rattle.std.specs.Prelude.{◌≡◌, ℕ, ◌-◌, ◌≤◌, min, ℤ, FitsSigned, List, [], ◌++◌, length, take, drop, map}
use Rattle.std.proofs.Common.{w64, sym, ap, ap₂, ◌∙◌, arith, ⊎_elim}
use Rattle.std.proofs.lemmas.Bool.{cases_lt}
use Rattle.std.proofs.lemmas.List.{map-id, take-append-drop}
use Rattle.std.proofs.Math.Seq.{take-append_seam}
use Rattle.sources.specs.Progressions.{progression, steps_on}
use Rattle.sources.specs.ProgressionLaws.{length-progression, take-progression, take-progression_all, drop-progression, drop-progression_all}

pub front_of : (a s : ℤ) (m n k : ℕ) → k ≡ min n m → progression a s k ≡ take m (progression a s n)
front_of a s m n k is = ⊎_elim
    (λ fewer. let all : k ≡ n = omega (arith, is, fewer) in ap (progression a s) all ∙ sym (take-progression_all a s m n (omega (arith, fewer))))
    (λ more. let some : k ≡ m = omega (arith, is, more) in ap (progression a s) some ∙ sym (take-progression a s m n more))
    (cases_lt n m)

pub rest_of : (a b s : ℤ) (m n k : ℕ) → FitsSigned w64 a → k ≡ min n m → b ≡ steps_on a s k → progression b s (n - k) ≡ drop m (progression a s n)
rest_of a b s m n k fits is on = ⊎_elim
    (λ fewer. let none : n - k ≡ 0 = omega (arith, is, fewer) in ap (progression b s) none ∙ sym (drop-progression_all a s m n (omega (arith, fewer))))
    (λ more.
    let some : k ≡ m = omega (arith, is, more) in
    ap₂ (λ c i. progression c s (n - i)) (on ∙ ap (steps_on a s) some) some ∙ sym (drop-progression a s m n fits more))
    (cases_lt n m)

-- what a block holds
pub block_front : (a s : ℤ) (k len : ℕ) (xs rest : List ℤ) → len ≡ k → xs ≡ progression a s k → take len (xs ++ rest) ≡ progression a s k
block_front a s k len xs rest same is =
    let count : length xs ≡ k = ap length is ∙ length-progression a s k in
    ap (λ m. take m (xs ++ rest)) (same ∙ sym count) ∙ take-append_seam xs rest ∙ is

pub block_of : (a s : ℤ) (n k len : ℕ) (xs rest after : List ℤ) → k ≤ n → len ≡ k → xs ≡ progression a s k → after ≡ drop k (progression a s n)
    → progression a s n ≡ map (λ (x : ℤ). x) (take len (xs ++ rest)) ++ after
block_of a s n k len xs rest after within same is left =
    let front = block_front a s k len xs rest same is in
    sym (take-append-drop k (progression a s n))
    ∙ ap₂ (λ l r. l ++ r) (take-progression a s k n within ∙ sym (map-id (take len (xs ++ rest)) ∙ front)) (sym left)

pub nothing_left : (a s : ℤ) (n k : ℕ) (after : List ℤ) → n ≤ k → after ≡ drop k (progression a s n) → after ≡ []
nothing_left a s n k after all left = left ∙ drop-progression_all a s k n all
