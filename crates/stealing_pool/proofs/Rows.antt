-- What stands for leaves that stand side by side.
use Rattle.std.proofs.Common.{◌≡◌, ◌<◌, ◌≤◌, ◌+◌, ◌∷◌, ◌∙◌, ℕ, zero, suc, List, [], length, length-append, take, drop, ap, sym, subst, arith, add-zero}
use Rattle.std.proofs.Math.Seq.{take-add}
use Rattle.std.proofs.lemmas.List.{take_all, length-take-le, length-drop}
use Rattle.stealing_pool.specs.Jobs.{Work, Combines}
use Rattle.stealing_pool.specs.Gathers.{sum_from, AreKept, AreWanted, StandsForPart}
use Rattle.stealing_pool.specs.SpanLaws.{reaches-more}

-- the sum over leaves is that over the first ones and that over those that follow
pub sum_from-add : (count : ℕ → ℕ) (first m n : ℕ) → sum_from count first (m + n) ≡ sum_from count first m + sum_from count (first + m) n
sum_from-add count first zero n =
    let begin : sum_from count first (0 + n) ≡ sum_from count first n = ap (sum_from count first) (omega arith) in
    let there : sum_from count (first + 0) n ≡ sum_from count first n = ap (λ i. sum_from count i n) (add-zero first) in
    omega arith
sum_from-add count first (suc m) n =
    let rest = sum_from-add count (first + 1) m n in
    let shape : suc m + n ≡ suc (m + n) = omega arith in
    let more : sum_from count first (suc m + n) ≡ sum_from count first (suc (m + n)) = ap (sum_from count first) shape in
    let same : sum_from count ((first + 1) + m) n ≡ sum_from count (first + suc m) n = ap (λ i. sum_from count i n) (omega arith) in
    omega arith

module _ {A : Type 0} (work : Work A) (count : ℕ → ℕ) where
  -- what is kept of the leaves that follow
  pub kept-drop : (first m : ℕ) (row : List A) → m ≤ length row → AreKept work count first row → AreKept work count (first + m) (drop m row)
  kept-drop first zero row within kept = let P : ℕ → Type 0 = λ i. AreKept work count i row in subst P (sym (add-zero first)) kept
  kept-drop first (suc m) [] within kept = absurd (omega arith)
  kept-drop first (suc m) (k ∷ row) within kept =
      let P : ℕ → Type 0 = λ i. AreKept work count i (drop m row) in
      subst P (omega arith) (kept-drop (first + 1) m row (omega arith) kept.1)

  -- the leaves that follow are wanted too
  pub wanted-drop : (first m n : ℕ) → AreWanted work.needed count first (m + n) → AreWanted work.needed count (first + m) n
  wanted-drop first m n wanted j some within reached =
      wanted (m + j) (omega arith) (omega arith) (reaches-more work.needed (sum_from count (first + m) j) (sum_from count first (m + j)) (let s = sum_from-add count first m j in omega arith) reached)

-- a leaf takes the first of the row
pub stands_one : {A : Type 0} (work : Work A) (kept : A) (row rest : List A) → row ≡ kept ∷ rest → StandsForPart work 1 row kept
stands_one work kept row rest is =
    let P : List _ → Type 0 = λ l. StandsForPart work 1 l kept in
    subst P (sym is) (λ first count each wanted. let Q : ℕ → Type 0 = λ n. work.Keeps first (first + 1) n kept in subst Q (omega arith) each.0)

-- where the row ends within the left part, the right one takes nothing
pub stands_left : {A : Type 0} (work : Work A) (kept : A) (row : List A) (m n : ℕ) → length row ≤ m → StandsForPart work m row kept → StandsForPart work (m + n) row kept
stands_left work kept row m n short stands =
    let P : List _ → Type 0 = λ l. (first : ℕ) (count : ℕ → ℕ) → AreKept work count first row → AreWanted work.needed count first (length row) → work.Keeps first (first + length l) (sum_from count first (length l)) kept in
    subst P (take_all m row short ∙ sym (take_all (m + n) row (omega arith))) stands

take_both : {A : Type 0} (row : List A) (m n : ℕ) → m ≤ length row → length (take (m + n) row) ≡ m + length (take n (drop m row))
take_both row m n within = ap length (take-add m n row) ∙ length-append (take m row) (take n (drop m row)) ∙ ap (λ k. k + length (take n (drop m row))) (length-take-le m row within)

-- what stands for both parts
pub stands_both : {A : Type 0} (work : Work A) (left right both : A) (row : List A) (m n : ℕ) → 0 < m → m < length row → StandsForPart work m row left → StandsForPart work n (drop m row) right → Combines work left right both
    → StandsForPart work (m + n) row both
stands_both work left right both row m n some more of_left of_right combines first count each wanted =
    let here : length (take m row) ≡ m = length-take-le m row (omega arith) in
    let taken = length (take n (drop m row)) in
    let all : length (take (m + n) row) ≡ m + taken = take_both row m n (omega arith) in
    let there : length (drop m row) + m ≡ length row = (let l = length-drop m row in omega arith) in
    let P : ℕ → Type 0 = λ k. work.Keeps first (first + k) (sum_from count first k) left in
    let on_left : work.Keeps first (first + m) (sum_from count first m) left = subst P here (of_left first count each wanted) in
    let W : ℕ → Type 0 = λ k. AreWanted work.needed count first k in
    let later : AreWanted work.needed count (first + m) (length (drop m row)) = wanted-drop work count first m (length (drop m row)) (subst W (omega arith) wanted) in
    let on_right = of_right (first + m) count (kept-drop work count first m row (omega arith) each) later in
    let E : ℕ → Type 0 = λ k. work.Keeps first k (sum_from count first m + sum_from count (first + m) taken) both in
    let N : ℕ → Type 0 = λ k. work.Keeps first (first + k) (sum_from count first k) both in
    let S : ℕ → Type 0 = λ s. work.Keeps first (first + (m + taken)) s both in
    let made = combines first (first + m) ((first + m) + taken) (sum_from count first m) (sum_from count (first + m) taken) (omega arith) (omega arith) on_left (wanted m some more) on_right in
    subst N (sym all) (subst S (sym (sum_from-add count first m taken)) (subst E (omega arith) made))
