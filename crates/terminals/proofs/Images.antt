-- A sort of items is one of their contents.
use Rattle.std.specs.Prelude.{◌≡◌, ◌+◌, ℕ, Bool, true, false, not, ◌&&◌, List, [], ◌∷◌, ◌++◌, length, map, take, refl}
use Rattle.std.proofs.Common.{◌⊎◌, inl, inr, ⊎_elim, ap, ap₂, sym, subst, ◌∙◌, arith}
use Rattle.std.proofs.Math.Seq.{take-append_seam}
use Rattle.std.proofs.lemmas.List.{get_or-map, length-map}
use Rattle.std.proofs.lemmas.List.Elements.{filter_agree}
use Rattle.std.proofs.lemmas.List.Sorted.{IsPermutation-map}
use Rattle.std.specs.Cmp.{IsStrictWeakOrder}
use Rattle.std.specs.List.{filter}
use Rattle.std.specs.List.Sorted.{IsPermutation, IsSortedBy, IsStableBy, IsSorted, IsStable, ties}
use Rattle.std.specs.Ordering.{is_lt}
use Rattle.std.specs.declared.cmp.Ordering.{Ordering}
use Rattle.rayon.proofs.ToStd.{filter-map}
use Rattle.terminals.specs.Sorted.{IsSortedList}
use Rattle.terminals.specs.SortedLaws.{ties-alike}

module _ {X C : Type 0} (content : X → C) (below : X → X → Bool) (order : C → C → Ordering) (weak : IsStrictWeakOrder (λ (c d : C). is_lt (order c d)))
    (agrees : (x y : X) → below x y ≡ is_lt (order (content x) (content y))) where
  abbrev lower : C → C → Bool
  lower c d = is_lt (order c d)

  pub ascending : (xs : List X) → IsSortedBy below xs → IsSorted order (map content xs)
  ascending [] up k d low within = absurd (omega arith)
  ascending (x ∷ xs) up k d low within =
      let long = length-map (x ∷ xs) content in
      let next = get_or-map content (x ∷ xs) (k + 1) x d (omega arith) in
      let here = get_or-map content (x ∷ xs) k x d (omega arith) in
      ap₂ lower next here ∙ sym (agrees _ _) ∙ up k x low (omega arith)

  -- an item whose content ties with the content
  tie : (c : C) (xs : List X) → ((x : X) × (ties lower c (content x) ≡ true)) ⊎ (filter (λ x. ties lower c (content x)) xs ≡ [])
  tie c [] = inr refl
  tie c (x ∷ xs) = here (ties lower c (content x)) refl (tie c xs)
    where
      here : (b : Bool) → ties lower c (content x) ≡ b → ((x : X) × (ties lower c (content x) ≡ true)) ⊎ (filter (λ x. ties lower c (content x)) xs ≡ [])
          → ((x : X) × (ties lower c (content x) ≡ true)) ⊎ (filter (λ x. ties lower c (content x)) (x ∷ xs) ≡ [])
      here true h rest = inl (x, h)
      here false h rest = ⊎_elim inl (λ none. inr (rw h none)) rest

  -- the items that tie with a content are those that tie with an item
  tied : (c : C) (x : X) → ties lower c (content x) ≡ true → (xs : List X) → filter (λ y. ties lower c (content y)) xs ≡ filter (ties below x) xs
  tied c x h xs =
      filter_agree (λ y. ties lower c (content y)) (ties below x)
      (λ y. ties-alike lower weak c (content x) (content y) h ∙ ap₂ (λ p q. not p && not q) (sym (agrees x y)) (sym (agrees y x))) xs

  stable : (xs ys : List X) → IsStableBy below xs ys → IsStable order (map content xs) (map content ys)
  stable xs ys keeps c =
      let by_item = λ (h : (x : X) × (ties lower c (content x) ≡ true)). tied c h.0 h.1 ys ∙ keeps h.0 ∙ sym (tied c h.0 h.1 xs) in
      filter-map (ties lower c) content ys
      ∙ ap (map content) (⊎_elim by_item (λ none. ⊎_elim by_item (λ none'. none ∙ sym none') (tie c xs)) (tie c ys))
      ∙ sym (filter-map (ties lower c) content xs)

  pub sorted-contents : (xs ys : List X) → IsPermutation xs ys → IsSortedBy below ys → IsStableBy below xs ys
      → IsSortedList order (map content xs) (map content ys)
  sorted-contents xs ys moved up keeps = record { permutation = IsPermutation-map content xs ys moved; ascending = ascending ys up; stable = stable xs ys keeps }

-- what a `Vec` holds once all of it was lent as a slice and written
whole-slice : {X : Type 0} (number : ℕ) (xs ys zs : List X) → length xs ≡ number → length ys ≡ length xs → take number (ys ++ zs) ≡ ys
whole-slice number xs ys zs full kept = ap (λ n. take n (ys ++ zs)) (sym (kept ∙ full)) ∙ take-append_seam ys zs

-- what is so of the lent items and of those written is so of the `Vec`'s
pub of-whole : {X : Type 0} (P : List X → List X → Type 0) (number : ℕ) (items xs ys zs : List X) → xs ≡ items → length xs ≡ number → length ys ≡ length xs
    → P xs ys → P items (take number (ys ++ zs))
of-whole P number items xs ys zs lent full kept h =
    subst (λ l. P l (take number (ys ++ zs))) lent (subst (P xs) (sym (whole-slice number xs ys zs full kept)) h)
