-- Lists that items are put into in order, and the fronts of such lists.
use Rattle.std.specs.Prelude.{◌≡◌, ◌≤◌, ℕ, zero, suc, Bool, true, false, cond, List, [], ◌∷◌, ◌++◌, fold, take, refl}
use Rattle.std.proofs.Common.{ap, sym, true≢false, ◌∙◌, arith}
use Rattle.std.proofs.lemmas.List.{take-take}
use Rattle.std.proofs.lemmas.List.Sums.{fold_push, fold-append}
use Rattle.std.specs.Cmp.{IsStrictWeakOrder}
use Rattle.stages.specs.Tests.{either}

module _ {X : Type 0} (below : X → X → Bool) where
  -- the list with x in front of the first member that it is below, else behind all
  abbrev pub insert_sorted : List X → X → List X
  insert_sorted [] x = x ∷ []
  insert_sorted (y ∷ s) x = cond (below x y) (x ∷ y ∷ s) (y ∷ insert_sorted s x)

  -- each member put in, in their order
  abbrev pub sorted_of : List X → List X
  sorted_of l = fold insert_sorted [] l

  -- the first so many of the sorted list
  abbrev pub first_sorted : ℕ → List X → List X
  first_sorted number l = take number (sorted_of l)

  -- y behind those of a list that are below it, and in front of what `rest` makes of the others
  abbrev pub merge_behind : X → (List X → List X) → List X → List X
  merge_behind y rest [] = y ∷ rest []
  merge_behind y rest (x ∷ t) = cond (below x y) (x ∷ merge_behind y rest t) (y ∷ rest (x ∷ t))

  -- two sorted lists as one: of members that tie those of the first stand first
  abbrev pub merge_sorted : List X → List X → List X
  merge_sorted [] t = t
  merge_sorted (y ∷ s) t = merge_behind y (merge_sorted s) t

  -- the first so many of a list that x is put into
  abbrev pub add_first : ℕ → List X → X → List X
  add_first number s x = take number (insert_sorted s x)

  -- the first so many of two sorted lists
  abbrev pub merge_first : ℕ → List X → List X → List X
  merge_first number s t = take number (merge_sorted s t)

  take-cons : (n : ℕ) (y : X) (s : List X) → take n (y ∷ take n s) ≡ take n (y ∷ s)
  take-cons zero y s = refl
  take-cons (suc n) y s = ap (λ l. y ∷ l) (take-take n (suc n) s (omega arith))

  -- what stands behind the first so many doesn't come back
  pub insert-front : (n : ℕ) (s : List X) (x : X) → take n (insert_sorted (take n s) x) ≡ take n (insert_sorted s x)
  insert-front zero s x = refl
  insert-front (suc n) [] x = refl
  insert-front (suc n) (y ∷ s) x =
      either (below x y)
      (λ h. simp h (ap (λ l. x ∷ l) (take-cons n y s)))
      (λ h. simp h (ap (λ l. y ∷ l) (insert-front n s x)))

  behind-front : (y : X) (rest rest' : List X → List X) (j : ℕ) → ((m k : ℕ) (t : List X) → m ≤ j → m ≤ k → take m (rest (take k t)) ≡ take m (rest' t))
      → (t : List X) (n k : ℕ) → n ≤ suc j → n ≤ k → take n (merge_behind y rest (take k t)) ≡ take n (merge_behind y rest' t)
  behind-front y rest rest' j agree t zero k low high = refl
  behind-front y rest rest' j agree t (suc n) zero low high = absurd (omega arith)
  behind-front y rest rest' j agree [] (suc n) (suc k) low high = ap (λ l. y ∷ l) (agree n (suc k) [] (omega arith) (omega arith))
  behind-front y rest rest' j agree (x ∷ t) (suc n) (suc k) low high =
      let here = behind-front y rest rest' j agree t n k (omega arith) (omega arith) in
      let later = agree n (suc k) (x ∷ t) (omega arith) (omega arith) in
      either (below x y)
      (λ h. simp h (ap (λ l. x ∷ l) here))
      (λ h. simp h (ap (λ l. y ∷ l) later))

  -- the first so many of two lists are those of their fronts
  pub merge-front : (s t : List X) (n j k : ℕ) → n ≤ j → n ≤ k → take n (merge_sorted (take j s) (take k t)) ≡ take n (merge_sorted s t)
  merge-front s t zero j k low high = refl
  merge-front s t (suc n) zero k low high = absurd (omega arith)
  merge-front [] t (suc n) (suc j) k low high = take-take (suc n) k t high
  merge-front (y ∷ s) t (suc n) (suc j) k low high =
      behind-front y (merge_sorted (take j s)) (merge_sorted s) j (λ m i u p q. merge-front s u m j i p q) t (suc n) k low high

  pub merge-nil : (s : List X) → merge_sorted s [] ≡ s
  merge-nil [] = refl
  merge-nil (y ∷ s) = ap (λ l. y ∷ l) (merge-nil s)

  module _ (weak : IsStrictWeakOrder below) where
    lower : (x y z : X) → below x y ≡ true → below y z ≡ true → below x z ≡ true
    lower x y z p q =
        either (below x z)
        (λ h. h)
        (λ h. absurd (true≢false (sym p ∙ weak.chain x z y h (weak.one_way y z q))))

    over : (x y z : X) → below x y ≡ false → below x z ≡ true → below y z ≡ true
    over x y z p q =
        either (below y z)
        (λ h. h)
        (λ h. absurd (true≢false (sym q ∙ weak.chain x y z p h)))

    behind-insert : (y : X) (rest : List X → List X) → ((t : List X) (x : X) → rest (insert_sorted t x) ≡ insert_sorted (rest t) x)
        → (t : List X) (x : X) → merge_behind y rest (insert_sorted t x) ≡ insert_sorted (merge_behind y rest t) x
    behind-insert y rest commutes [] x =
        either (below x y)
        (λ h. simp h)
        (λ h. simp h (ap (λ l. y ∷ l) (commutes [] x)))
    behind-insert y rest commutes (z ∷ t) x =
        let here = behind-insert y rest commutes t x in
        let later = commutes (z ∷ t) x in
        either (below x z)
        (λ p. either (below z y)
        (λ q. let r = lower x z y p q in simp (p, q, r))
        (λ q. either (below x y)
        (λ r. simp (p, q, r))
        (λ r. simp (p, q, r) (ap (λ l. y ∷ l) (simp p at later)))))
        (λ p. either (below z y)
        (λ q. simp (p, q) (ap (λ l. z ∷ l) here))
        (λ q. either (below x y)
        (λ r. absurd (true≢false (sym (over x z y p r) ∙ q)))
        (λ r. simp (p, q, r) (ap (λ l. y ∷ l) (simp p at later)))))

    -- an item that is put into the second list is put into the one list
    pub merge-insert : (s t : List X) (x : X) → merge_sorted s (insert_sorted t x) ≡ insert_sorted (merge_sorted s t) x
    merge-insert [] t x = refl
    merge-insert (y ∷ s) t x = behind-insert y (merge_sorted s) (merge-insert s) t x

    merge-fold : (s t l : List X) → merge_sorted s (fold insert_sorted t l) ≡ fold insert_sorted (merge_sorted s t) l
    merge-fold s t [] = refl
    merge-fold s t (x ∷ l) = merge-fold s (insert_sorted t x) l ∙ ap (λ u. fold insert_sorted u l) (merge-insert s t x)

    pub merge-sorted_of : (l r : List X) → merge_sorted (sorted_of l) (sorted_of r) ≡ sorted_of (l ++ r)
    merge-sorted_of l r =
        merge-fold (sorted_of l) [] r ∙ ap (λ u. fold insert_sorted u r) (merge-nil (sorted_of l)) ∙ sym (fold-append insert_sorted [] l r)

  fold-first_from : (n : ℕ) (s l : List X) → fold (add_first n) (take n s) l ≡ take n (fold insert_sorted s l)
  fold-first_from n s [] = refl
  fold-first_from n s (x ∷ l) = ap (λ u. fold (add_first n) u l) (insert-front n s x) ∙ fold-first_from n (insert_sorted s x) l

  take-nil : (n : ℕ) → take {A = X} n [] ≡ []
  take-nil zero = refl
  take-nil (suc n) = refl

  -- the first so many of a list, one item after another
  pub fold-first : (n : ℕ) (l : List X) → fold (add_first n) [] l ≡ first_sorted n l
  fold-first n l = ap (λ u. fold (add_first n) u l) (sym (take-nil n)) ∙ fold-first_from n [] l

  -- a list that takes one more item
  pub first-push : (n : ℕ) (l : List X) (x : X) → first_sorted n (l ++ x ∷ []) ≡ add_first n (first_sorted n l) x
  first-push n l x = ap (take n) (fold_push insert_sorted [] l x) ∙ sym (insert-front n (sorted_of l) x)

  -- a list behind another
  pub first-append : IsStrictWeakOrder below → (n : ℕ) (l r : List X) → first_sorted n (l ++ r) ≡ merge_first n (first_sorted n l) (first_sorted n r)
  first-append weak n l r =
      ap (take n) (sym (merge-sorted_of weak l r)) ∙ sym (merge-front (sorted_of l) (sorted_of r) n n n (omega arith) (omega arith))
