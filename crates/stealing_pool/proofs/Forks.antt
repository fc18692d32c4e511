-- The parts that two threads combine.
use Rattle.std.proofs.Common.{◌≡◌, ◌<◌, ◌≤◌, ◌+◌, ◌++◌, ◌∷◌, ◌∙◌, ℕ, zero, suc, List, [], Some, length, take, ap, sym, subst, arith}
use Rattle.std.specs.Prelude.{slice_get, Result, Ok, Err, IfOk}
use Rattle.std.proofs.lemmas.List.{take_all, take-take, length-take-le}
use Rattle.split_tree.specs.declared.tree.Tree.{Tree}
use Rattle.split_tree.specs.SplitTree.{leaf_numbers, numbers_from}
use Rattle.split_tree.specs.TreeLaws.{leaf_numbers-children, some_leaf, length-numbers_from}
use Rattle.stealing_pool.specs.Jobs.{Work, StandsForRun}
use Rattle.stealing_pool.specs.Gathers.{IsNumbered, IsRow, sum_from, AreKept, StandsForPart}
use Rattle.stealing_pool.proofs.Rows.{stands_left}

first_from : (xs : List ℕ) (first n a : ℕ) → 0 < n → xs ≡ numbers_from first n → slice_get xs 0 ≡ Some a → a ≡ first
first_from xs first zero a some is at = absurd (omega arith)
first_from xs first (suc n) a some is at = let there : slice_get xs 0 ≡ Some first = ap (λ l. slice_get l 0) is in cc

pub numbered_from_zero : (tree : Tree) (n : ℕ) → leaf_numbers tree ≡ numbers_from 0 n → IsNumbered tree
numbered_from_zero tree n is = (0, is ∙ ap (numbers_from 0) (sym (ap length is ∙ length-numbers_from 0 n)))

module _ (tree left right : Tree) (split : leaf_numbers tree ≡ leaf_numbers left ++ leaf_numbers right) (numbered : IsNumbered tree) where
  parts : (leaf_numbers left ≡ numbers_from numbered.0 (length (leaf_numbers left))) × (leaf_numbers right ≡ numbers_from (numbered.0 + length (leaf_numbers left)) (length (leaf_numbers right))) × (length (leaf_numbers left) + length (leaf_numbers right) ≡ length (leaf_numbers tree))
  parts = leaf_numbers-children left right numbered.0 (length (leaf_numbers tree)) (sym split ∙ numbered.1)

  pub numbered_left : IsNumbered left
  numbered_left = (numbered.0, parts.0)

  pub numbered_right : IsNumbered right
  numbered_right = (numbered.0 + length (leaf_numbers left), parts.1)

  pub size_both : length (leaf_numbers tree) ≡ length (leaf_numbers left) + length (leaf_numbers right)
  size_both = sym parts.2

  -- the right child's first leaf follows the left one's last
  pub first_right : (a b : ℕ) → slice_get (leaf_numbers left) 0 ≡ Some a → slice_get (leaf_numbers right) 0 ≡ Some b → b ≡ a + length (leaf_numbers left)
  first_right a b at_left at_right =
      let l = first_from (leaf_numbers left) numbered.0 (length (leaf_numbers left)) a (some_leaf left) parts.0 at_left in
      let r = first_from (leaf_numbers right) (numbered.0 + length (leaf_numbers left)) (length (leaf_numbers right)) b (some_leaf right) parts.1 at_right in
      omega arith

kept-take : {A : Type 0} (work : Work A) (count : ℕ → ℕ) (first m : ℕ) (row : List A) → AreKept work count first row → AreKept work count first (take m row)
kept-take work count first zero row kept = tt
kept-take work count first (suc m) [] kept = tt
kept-take work count first (suc m) (k ∷ row) kept = (kept.0, kept-take work count (first + 1) m row kept.1)

-- what stands for all of a beginning stands for as much of the row
pub stands_take : {A : Type 0} (work : Work A) (kept : A) (row start : List A) (m : ℕ) → m ≤ length row → start ≡ take m row → StandsForPart work m start kept → StandsForPart work m row kept
stands_take work kept row start m within is stands first count each wanted =
    let P : List _ → Type 0 = λ l. StandsForPart work m l kept in
    let Q : ℕ → Type 0 = λ n. work.Keeps first (first + n) (sum_from count first n) kept in
    let here : length (take m row) ≡ m = length-take-le m row within in
    let same : length (take m (take m row)) ≡ length (take m row) = ap length (take-take m m row (omega arith)) in
    subst Q same (subst P is stands first count (kept-take work count first m row each) (λ j some below. wanted j some (omega arith)))

pub stands_left_ok : {A E : Type 0} (work : Work A) (r : Result A E) (row : List A) (k m n : ℕ) → k ≡ m + n → length row ≤ m → IfOk r (StandsForPart work m row) → IfOk r (StandsForPart work k row)
stands_left_ok work (Ok kept) row k m n is short stands = let P : ℕ → Type 0 = λ j. StandsForPart work j row kept in subst P (sym is) (stands_left work kept row m n short stands)
stands_left_ok work (Err e) row k m n is short stands = tt

-- what stands for the whole tree stands for the run
pub stands_run_ok : {A E : Type 0} (work : Work A) (r : Result A E) (row : List A) (n : ℕ) → n ≡ work.leaves → IsRow work row → IfOk r (StandsForPart work n row) → IfOk r (StandsForRun work)
stands_run_ok work (Ok kept) row n is picked stands =
    let all : length (take n row) ≡ length row = ap length (take_all n row (let f = picked.few in omega arith)) in
    let Q : ℕ → Type 0 = λ k. work.Keeps 0 k (sum_from picked.count 0 (length row)) kept in
    let P : ℕ → Type 0 = λ k. work.Keeps 0 (0 + k) (sum_from picked.count 0 k) kept in
    let here : work.Keeps 0 (0 + length row) (sum_from picked.count 0 (length row)) kept = subst P all (stands 0 picked.count picked.each picked.wanted) in
    (length row, sum_from picked.count 0 (length row), picked.few, subst Q (omega arith) here, picked.end)
stands_run_ok work (Err e) row n is picked stands = tt
