-- From where the end can be reached.
use Rattle.std.specs.Prelude.{◌≡◌, ◌≤◌, ◌⊎◌, ◌||◌, ℕ, Bool, true, false, List, [], ◌∷◌, ◌++◌, All, Any, refl, if◌then◌else◌, nat_eq}
use Rattle.std.specs.List.{list_any}
use Rattle.std.proofs.Common.{inl, inr, ⊎_elim, sym, ◌∙◌, subst, arith, true≢false, eqb-true, eq-eqb}
use Rattle.std.proofs.lemmas.List.Elements.{All-head, All-tail}
use Rattle.indexmap.specs.IndexSet.{insert_key}
use Rattle.stages.specs.Tests.{either}
use Rattle.placed_containers.specs.declared.pieces.Part.{Part}
use Rattle.placed_containers.specs.Ways.{begin_of, end_of, IsWay, HasPart, IsFalling, reached}
use Rattle.placed_containers.proofs.Anys.{any-none, any-here, any-there, any-cases}

abbrev In : ℕ → List ℕ → Type 0
In p l = list_any (nat_eq p) l ≡ true

or-left : (b c : Bool) → b ≡ true → (b || c) ≡ true
or-left true c h = refl
or-left false c h = absurd (true≢false (sym h))

or-right : (b c : Bool) → c ≡ true → (b || c) ≡ true
or-right true c h = refl
or-right false c h = h

or-sides : (b c : Bool) → (b || c) ≡ true → (b ≡ true) ⊎ (c ≡ true)
or-sides true c h = inl refl
or-sides false c h = inr h

in-last : (l : List ℕ) (p : ℕ) → In p (l ++ p ∷ [])
in-last [] p = or-left (nat_eq p p) false (eq-eqb p p refl)
in-last (x ∷ l) p = or-right (nat_eq p x) (list_any (nat_eq p) (l ++ p ∷ [])) (in-last l p)

in-front : (l : List ℕ) (p q : ℕ) → In p l → In p (l ++ q ∷ [])
in-front [] p q h = absurd (true≢false (sym h))
in-front (x ∷ l) p q h =
    ⊎_elim (λ e. or-left (nat_eq p x) (list_any (nat_eq p) (l ++ q ∷ [])) e) (λ k. or-right (nat_eq p x) (list_any (nat_eq p) (l ++ q ∷ [])) (in-front l p q k))
    (or-sides (nat_eq p x) (list_any (nat_eq p) l) h)

in-sides : (l : List ℕ) (p q : ℕ) → In p (l ++ q ∷ []) → In p l ⊎ (p ≡ q)
in-sides [] p q h = ⊎_elim (λ e. inr (eqb-true p q e)) (λ wrong. absurd (true≢false (sym wrong))) (or-sides (nat_eq p q) false h)
in-sides (x ∷ l) p q h =
    ⊎_elim (λ e. inl (or-left (nat_eq p x) (list_any (nat_eq p) l) e))
    (λ k. ⊎_elim (λ there. inl (or-right (nat_eq p x) (list_any (nat_eq p) l) there)) (λ same. inr same) (in-sides l p q k))
    (or-sides (nat_eq p x) (list_any (nat_eq p) (l ++ q ∷ [])) h)

pub in-one : (n p : ℕ) → In p (n ∷ []) → p ≡ n
in-one n p h = ⊎_elim (λ wrong. absurd (true≢false (sym wrong))) (λ e. e) (in-sides [] p n h)

-- in a list to which a place is added where it lacks
in-put : (b : Bool) (l : List ℕ) (p q : ℕ) → (b ≡ true → In p l) → In p (l ++ q ∷ []) → In p (if b then l else l ++ q ∷ [])
in-put true l p q h k = h refl
in-put false l p q h k = k

pub put-sides : (b : Bool) (l : List ℕ) (p q : ℕ) → In p (if b then l else l ++ q ∷ []) → In p l ⊎ (p ≡ q)
put-sides true l p q h = inl h
put-sides false l p q h = in-sides l p q h

in-itself : (l : List ℕ) (q : ℕ) → In q (insert_key nat_eq l q)
in-itself l q = in-put (list_any (nat_eq q) l) l q q (λ t. t) (in-last l q)

in-kept : (l : List ℕ) (p q : ℕ) → In p l → In p (insert_key nat_eq l q)
in-kept l p q h = in-put (list_any (nat_eq q) l) l p q (λ _. h) (in-front l p q h)

-- a step: a place is added where the test holds
step-kept : (b : Bool) (l : List ℕ) (p q : ℕ) → In p l → In p (if b then insert_key nat_eq l q else l)
step-kept true l p q h = in-kept l p q h
step-kept false l p q h = h

step-sides : (b : Bool) (l : List ℕ) (p q : ℕ) → In p (if b then insert_key nat_eq l q else l) → In p l ⊎ (p ≡ q)
step-sides true l p q h = put-sides (list_any (nat_eq q) l) l p q h
step-sides false l p q h = inl h

step-there : (b : Bool) (l : List ℕ) (q : ℕ) → b ≡ true → In q (if b then insert_key nat_eq l q else l)
step-there true l q h = in-itself l q
step-there false l q h = absurd (true≢false (sym h))

step-none : (b : Bool) (l : List ℕ) (p q : ℕ) → b ≡ false → In p (if b then insert_key nat_eq l q else l) → In p l
step-none true l p q h k = absurd (true≢false h)
step-none false l p q h k = k

module _ {A : Type 0} where
  abbrev step : List ℕ → Part A → List ℕ
  step l x = if list_any (nat_eq (end_of x)) l then insert_key nat_eq l (begin_of x) else l

  reached-kept : (l : List ℕ) (parts : List (Part A)) (p : ℕ) → In p l → In p (reached l parts)
  reached-kept l [] p h = h
  reached-kept l (x ∷ parts) p h = reached-kept (step l x) parts p (step-kept (list_any (nat_eq (end_of x)) l) l p (begin_of x) h)

  reached-sides : (l : List ℕ) (parts : List (Part A)) (p : ℕ) → In p (reached l parts) → In p l ⊎ Any (λ x. begin_of x ≡ p) parts
  reached-sides l [] p h = inl h
  reached-sides l (x ∷ parts) p h = at (reached-sides (step l x) parts p h)
    where
      first : In p l ⊎ (p ≡ begin_of x) → In p l ⊎ Any (λ y. begin_of y ≡ p) (x ∷ parts)
      first (inl k) = inl k
      first (inr e) = inr (any-here (λ y. begin_of y ≡ p) x parts (sym e))

      at : In p (step l x) ⊎ Any (λ y. begin_of y ≡ p) parts → In p l ⊎ Any (λ y. begin_of y ≡ p) (x ∷ parts)
      at (inl k) = first (step-sides (list_any (nat_eq (end_of x)) l) l p (begin_of x) k)
      at (inr a) = inr (any-there (λ y. begin_of y ≡ p) x parts a)

  -- a part that begins no later than another, and ends where that begins, has no length
  no-length : (x : Part A) (parts : List (Part A)) → All (λ y. begin_of y ≤ begin_of x) parts → begin_of x ≤ end_of x → Any (λ y. begin_of y ≡ end_of x) parts → begin_of x ≡ end_of x
  no-length x parts falls within a =
      let below : begin_of a.1 ≤ begin_of x = subst (λ y. begin_of y ≤ begin_of x) a.3 (falls a.0 a.1 a.2) in
      omega (arith, within, below, a.4)

  closed-first : (l : List ℕ) (x : Part A) (parts : List (Part A)) → All (λ y. begin_of y ≤ begin_of x) parts → begin_of x ≤ end_of x
      → In (end_of x) (reached (step l x) parts) → In (begin_of x) (reached (step l x) parts)
  closed-first l x parts falls within h =
      either (list_any (nat_eq (end_of x)) l)
      (λ b. reached-kept (step l x) parts (begin_of x) (step-there (list_any (nat_eq (end_of x)) l) l (begin_of x) b))
      (λ b. ⊎_elim
      (λ k. absurd (true≢false (sym (step-none (list_any (nat_eq (end_of x)) l) l (end_of x) (begin_of x) b k) ∙ b)))
      (λ a. subst (λ r. In r (reached (step l x) parts)) (sym (no-length x parts falls within a)) h)
      (reached-sides (step l x) parts (end_of x) h))

  -- where the end of a part is reached, so is its begin
  closed : (l : List ℕ) (parts : List (Part A)) → IsFalling parts → All (λ x. begin_of x ≤ end_of x) parts
      → (p q : ℕ) → HasPart parts p q → In q (reached l parts) → In p (reached l parts)
  closed l [] falls within p q part there = absurd (any-none (λ y. (begin_of y ≡ p) × (end_of y ≡ q)) part)
  closed l (x ∷ parts) falls within p q part there =
      ⊎_elim
      (λ e. subst (λ r. In r (reached (step l x) parts)) e.0 (closed-first l x parts falls.0 (All-head (λ y. begin_of y ≤ end_of y) x parts within) (subst (λ r. In r (reached (step l x) parts)) (sym e.1) there)))
      (λ rest. closed (step l x) parts falls.1 (All-tail (λ y. begin_of y ≤ end_of y) x parts within) p q rest there)
      (any-cases (λ y. (begin_of y ≡ p) × (end_of y ≡ q)) x parts part)

  -- from where a way leads to the end, the end is reached
  pub way-reached : (end : ℕ) (parts : List (Part A)) → IsFalling parts → All (λ x. begin_of x ≤ end_of x) parts
      → (p : ℕ) (stops : List ℕ) → IsWay (HasPart parts) p stops end → In p (reached (end ∷ []) parts)
  way-reached end parts falls within p [] e = subst (λ r. In r (reached (end ∷ []) parts)) (sym e) (reached-kept (end ∷ []) parts end (or-left (nat_eq end end) false (eq-eqb end end refl)))
  way-reached end parts falls within p (s ∷ stops) way = closed (end ∷ []) parts falls within p s way.0 (way-reached end parts falls within s stops way.1)
