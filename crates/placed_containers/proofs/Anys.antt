-- Lists of which some element is so.
use Rattle.std.specs.Prelude.{◌≡◌, ◌<◌, ◌⊎◌, ℕ, zero, suc, List, [], ◌∷◌, ◌++◌, All, Any, Contains, None, Some, length, refl, slice_get, slice_index_or}
use Rattle.std.proofs.Common.{inl, inr, ⊎_elim, sym, subst, arith}

module _ {X : Type 0} (P : X → Type 0) where
  pub any-none : Any P [] → ⊥
  any-none a = let lt = a.2 in omega arith

  pub any-here : (x : X) (xs : List X) → P x → Any P (x ∷ xs)
  any-here x xs p = (0, x, omega arith, refl, p)

  pub any-there : (x : X) (xs : List X) → Any P xs → Any P (x ∷ xs)
  any-there x xs a = let lt = a.2 in (suc a.0, a.1, omega arith, a.3, a.4)

  pub any-cases : (x : X) (xs : List X) → Any P (x ∷ xs) → P x ⊎ Any P xs
  any-cases x xs a = at a.0 a.1 a.2 a.3 a.4
    where
      at : (k : ℕ) (y : X) → k < length (x ∷ xs) → slice_index_or (x ∷ xs) k y ≡ y → P y → P x ⊎ Any P xs
      at zero y lt is p = inl (subst P (sym is) p)
      at (suc k) y lt is p = inr (k, y, omega (arith, lt), is, p)

  pub any-left : (xs ys : List X) → Any P xs → Any P (xs ++ ys)
  any-left [] ys a = absurd (any-none a)
  any-left (x ∷ xs) ys a = ⊎_elim (λ p. any-here x (xs ++ ys) p) (λ b. any-there x (xs ++ ys) (any-left xs ys b)) (any-cases x xs a)

  pub any-right : (xs ys : List X) → Any P ys → Any P (xs ++ ys)
  any-right [] ys a = a
  any-right (x ∷ xs) ys a = any-there x (xs ++ ys) (any-right xs ys a)

  pub any-sides : (xs ys : List X) → Any P (xs ++ ys) → Any P xs ⊎ Any P ys
  any-sides [] ys a = inr a
  any-sides (x ∷ xs) ys a =
      ⊎_elim (λ p. inl (any-here x xs p)) (λ b. ⊎_elim (λ l. inl (any-there x xs l)) (λ r. inr r) (any-sides xs ys b)) (any-cases x (xs ++ ys) a)

  -- one that is so, and what all are
  pub any-with : (Q : X → Type 0) (xs : List X) → Any P xs → All Q xs → (x : X) × P x × Q x
  any-with Q xs a all = (a.1, a.4, subst Q a.3 (all a.0 a.1 a.2))

  -- where each is among others
  pub any-among : (xs ys : List X) → All (Contains ys) xs → Any P xs → Any P ys
  any-among xs ys all a = let there = subst (Contains ys) a.3 (all a.0 a.1 a.2) in (there.0, a.1, there.1, there.2, a.4)

  -- one at a place
  pub any-at : (xs : List X) (i : ℕ) (x : X) → slice_get xs i ≡ Some x → P x → Any P xs
  any-at [] i x e p = absurd (none-some e)
    where
      none-some : None ≡ Some x → ⊥
      none-some h = cc
  any-at (y ∷ xs) zero x e p = any-here y xs (subst P (sym (same e)) p)
    where
      same : Some y ≡ Some x → y ≡ x
      same h = cc
  any-at (y ∷ xs) (suc i) x e p = any-there y xs (any-at xs i x e p)

-- what all are, the one at a place is
pub all-at : {X : Type 0} (P : X → Type 0) (xs : List X) (i : ℕ) (x : X) → All P xs → slice_get xs i ≡ Some x → P x
all-at P xs i x all e = let there = any-with (λ y. y ≡ x) P xs (any-at (λ y. y ≡ x) xs i x e refl) all in subst P there.1 there.2
