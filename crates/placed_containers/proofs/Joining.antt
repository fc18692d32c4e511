-- The steps of joining parts that fall.
use Rattle.std.specs.Prelude.{◌≡◌, ◌⊎◌, ℕ, List, [], ◌∷◌, ◌++◌, All, Contains, Option, None, Some, IfSome, IsSome, ◌<◌, length, reverse}
use Rattle.std.specs.Option.{option_to_list}
use Rattle.std.proofs.Common.{inl, inr, sym, subst, append_assoc, arith, length-append, true≢false}
use Rattle.std.specs.List.Sorted.{IsPermutation}
use Rattle.std.proofs.lemmas.List.Sorted.{All-permutation, IsPermutation-sym}
use Rattle.std.proofs.lemmas.List.Elements.{All-nil, All-cons, All-append, All-contains_itself}
use Rattle.placed_containers.specs.declared.pieces.Part.{Part}
use Rattle.placed_containers.specs.Ways.{begin_of, end_of, HasPart, IsLongestWay}
use Rattle.placed_containers.proofs.Anys.{any-among}
use Rattle.placed_containers.proofs.Longest.{longest-same}
use Rattle.placed_containers.proofs.Meeting.{longest-dropped}
use Rattle.placed_containers.proofs.Popping.{last-first, has-reverse, has-unreverse}

module _ {A : Type 0} where
  abbrev IsLong : List (Part A) → ℕ → ℕ → Type 0
  IsLong parts p q = IsLongestWay (HasPart parts) p q

  -- the order of parts changes no way
  pub has-permuted : (xs ys : List (Part A)) → IsPermutation xs ys → (p q : ℕ) → HasPart xs p q → HasPart ys p q
  has-permuted xs ys moved p q a = any-among (λ part. (begin_of part ≡ p) × (end_of part ≡ q)) xs ys
      (All-permutation (Contains ys) ys xs (IsPermutation-sym xs ys moved) (All-contains_itself ys)) a

  pub long-permuted : (xs ys : List (Part A)) → IsPermutation xs ys → (p q : ℕ) → IsLong xs p q → IsLong ys p q
  long-permuted xs ys moved = longest-same {told = HasPart xs} {other = HasPart ys} (has-permuted xs ys moved) (has-permuted ys xs (IsPermutation-sym xs ys moved))

  pub long-reversed : (xs : List (Part A)) (p q : ℕ) → IsLong xs p q → IsLong (reverse xs) p q
  long-reversed xs = longest-same {told = HasPart xs} {other = HasPart (reverse xs)} (has-reverse xs) (has-unreverse xs)

  -- the last of the parts that are left is the next
  pub long-next : (front xs all : List (Part A)) (x : Part A) → all ≡ xs ++ x ∷ [] → (p q : ℕ) → IsLong (front ++ reverse all) p q → IsLong (front ++ (x ∷ reverse xs)) p q
  long-next front xs all x e p q = subst (λ l. IsLong (front ++ l) p q) (last-first xs all x e)

  -- a part is left out
  pub long-left_out : (done last xs all : List (Part A)) (x : Part A) → all ≡ xs ++ x ∷ [] → HasPart xs (begin_of x) (end_of x) ⊎ (begin_of x ≡ end_of x)
      → (p q : ℕ) → IsLong (done ++ (last ++ reverse all)) p q → IsLong (done ++ (last ++ reverse xs)) p q
  long-left_out done last xs all x e why p q h =
      let next : IsLong ((done ++ last) ++ (x ∷ reverse xs)) p q =
      subst (λ l. IsLong ((done ++ last) ++ l) p q) (last-first xs all x e) (subst (λ l. IsLong l p q) (sym (append_assoc done last (reverse all))) h) in
      subst (λ l. IsLong l p q) (append_assoc done last (reverse xs)) (longest-dropped (done ++ last) x (reverse xs) (at why) p q next)
    where
      at : HasPart xs (begin_of x) (end_of x) ⊎ (begin_of x ≡ end_of x) → HasPart (reverse xs) (begin_of x) (end_of x) ⊎ (begin_of x ≡ end_of x)
      at (inl a) = inl (has-reverse xs (begin_of x) (end_of x) a)
      at (inr same) = inr same

  -- the last part stays as it is, where nothing stands before it
  pub long-opened : (done : List (Part A)) (last : Option (Part A)) (xs all : List (Part A)) (x : Part A) → last ≡ None → xs ≡ [] → all ≡ xs ++ x ∷ []
      → (p q : ℕ) → IsLong (done ++ (option_to_list last ++ reverse all)) p q → IsLong (done ++ (option_to_list (Some x) ++ reverse xs)) p q
  long-opened done last xs all x none empty e p q h =
      let next : IsLong (done ++ (option_to_list last ++ (x ∷ reverse xs))) p q = subst (λ l. IsLong (done ++ (option_to_list last ++ l)) p q) (last-first xs all x e) h in
      subst (λ o. IsLong (done ++ (option_to_list o ++ (x ∷ reverse xs))) p q) none next

  -- the pieces, once nothing follows
  pub all-pieces : (P : Part A → Type 0) (done : List (Part A)) (last : Option (Part A)) → All P done → IfSome last P → All P (done ++ (option_to_list last ++ []))
  all-pieces P done last all there = All-append P done (option_to_list last ++ []) all (at last there)
    where
      at : (o : Option (Part A)) → IfSome o P → All P (option_to_list o ++ [])
      at None h = All-nil P
      at (Some x) h = All-cons P x [] h (All-nil P)

  pub some-pieces : (done : List (Part A)) (last : Option (Part A)) → IsSome last → 0 < length (done ++ (option_to_list last ++ []))
  some-pieces done last some = let long = length-append done (option_to_list last ++ []) in omega (arith, long, at last some)
    where
      at : (o : Option (Part A)) → IsSome o → 0 < length (option_to_list o ++ [])
      at None h = absurd (true≢false (sym h))
      at (Some x) h = omega arith
