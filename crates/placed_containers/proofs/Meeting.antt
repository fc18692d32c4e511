-- Two parts that meet, and parts that are left out.
use Rattle.std.specs.Prelude.{◌≡◌, ◌≢◌, ◌<◌, ◌≤◌, ◌⊎◌, ℕ, List, [], ◌∷◌, ◌++◌, All, refl}
use Rattle.std.proofs.Common.{inl, inr, sym, ◌∙◌, subst, arith, le_trans}
use Rattle.std.proofs.lemmas.List.Elements.{All-push, All-weaker}
use Rattle.placed_containers.specs.declared.pieces.Part.{Part}
use Rattle.placed_containers.specs.Ways.{begin_of, end_of, HasPart, IsLongestWay}
use Rattle.placed_containers.proofs.Anys.{any-here, any-there, any-cases, any-left, any-right, any-sides, any-with}
use Rattle.placed_containers.proofs.Longest.{longest-joined, longest-without}

module _ {A : Type 0} where
  abbrev IsAt : ℕ → ℕ → Part A → Type 0
  IsAt p q part = (begin_of part ≡ p) × (end_of part ≡ q)

  module _ (done : List (Part A)) (y x z : Part A) (rest : List (Part A)) (end : ℕ)
      (ended : All (λ w. (begin_of w < end_of w) × (end_of w ≤ end)) done) (below : end < begin_of x)
      (first : begin_of y < end_of y) (meet : end_of y ≡ begin_of x) (second : begin_of x < end_of x)
      (later : All (λ r. begin_of x ≤ begin_of r) rest) (within : All (λ r. begin_of r ≤ end_of r) rest) (alone : All (λ r. begin_of r ≢ begin_of x) rest)
      (begins-z : begin_of z ≡ begin_of y) (ends-z : end_of z ≡ end_of x) where
    abbrev told : ℕ → ℕ → Type 0
    told p q = HasPart (done ++ (y ∷ x ∷ rest)) p q

    abbrev joined : ℕ → ℕ → Type 0
    joined p q = HasPart (done ++ (z ∷ rest)) p q

    sides : (p q : ℕ) → told p q → HasPart done p q ⊎ (IsAt p q y ⊎ (IsAt p q x ⊎ HasPart rest p q))
    sides p q t = at (any-sides (IsAt p q) done (y ∷ x ∷ rest) t)
      where
        third : IsAt p q x ⊎ HasPart rest p q → HasPart done p q ⊎ (IsAt p q y ⊎ (IsAt p q x ⊎ HasPart rest p q))
        third c = inr (inr c)

        second-of : IsAt p q y ⊎ HasPart (x ∷ rest) p q → HasPart done p q ⊎ (IsAt p q y ⊎ (IsAt p q x ⊎ HasPart rest p q))
        second-of (inl e) = inr (inl e)
        second-of (inr b) = third (any-cases (IsAt p q) x rest b)

        at : HasPart done p q ⊎ HasPart (y ∷ x ∷ rest) p q → HasPart done p q ⊎ (IsAt p q y ⊎ (IsAt p q x ⊎ HasPart rest p q))
        at (inl a) = inl a
        at (inr b) = second-of (any-cases (IsAt p q) y (x ∷ rest) b)

    none-done : (p q : ℕ) → HasPart done p q → begin_of x ≤ q → ⊥
    none-done p q a le = let w = any-with (IsAt p q) (λ w. (begin_of w < end_of w) × (end_of w ≤ end)) done a ended in
        let is = w.1 in let at = w.2 in omega (arith, is.1, at.1, below, le)

    none-done-begin : (q : ℕ) → HasPart done (begin_of x) q → ⊥
    none-done-begin q a = let w = any-with (IsAt (begin_of x) q) (λ w. (begin_of w < end_of w) × (end_of w ≤ end)) done a ended in
        let is = w.1 in let at = w.2 in omega (arith, is.0, at.0, at.1, below)

    none-rest : (p : ℕ) → HasPart rest p (begin_of x) → ⊥
    none-rest p a =
        let behind = any-with (IsAt p (begin_of x)) (λ r. begin_of r ≢ begin_of x) rest a alone in
        let on = any-with (IsAt p (begin_of x)) (λ r. begin_of x ≤ begin_of r) rest a later in
        let up = any-with (IsAt p (begin_of x)) (λ r. begin_of r ≤ end_of r) rest a within in
        let one = on.1 in let two = up.1 in let three = behind.1 in
        let low = on.2 in let high = up.2 in
        behind.2 (omega (arith, one.0, two.0, two.1, three.0, low, high))

    ends : (o : ℕ) → told o (begin_of x) → o ≡ begin_of y
    ends o t = at (sides o (begin_of x) t)
      where
        at : HasPart done o (begin_of x) ⊎ (IsAt o (begin_of x) y ⊎ (IsAt o (begin_of x) x ⊎ HasPart rest o (begin_of x))) → o ≡ begin_of y
        at (inl a) = absurd (none-done o (begin_of x) a (omega arith))
        at (inr (inl e)) = sym e.0
        at (inr (inr (inl e))) = absurd (omega (arith, e.1, second))
        at (inr (inr (inr a))) = absurd (none-rest o a)

    begins : (r : ℕ) → told (begin_of x) r → r ≡ end_of x
    begins r t = at (sides (begin_of x) r t)
      where
        none : HasPart rest (begin_of x) r → ⊥
        none a = let w = any-with (IsAt (begin_of x) r) (λ r. begin_of r ≢ begin_of x) rest a alone in w.2 w.1.0

        at : HasPart done (begin_of x) r ⊎ (IsAt (begin_of x) r y ⊎ (IsAt (begin_of x) r x ⊎ HasPart rest (begin_of x) r)) → r ≡ end_of x
        at (inl a) = absurd (none-done-begin r a)
        at (inr (inl e)) = absurd (omega (arith, e.0, first, meet))
        at (inr (inr (inl e))) = sym e.1
        at (inr (inr (inr a))) = absurd (none a)

    kept : (p q : ℕ) → told p q → joined p q ⊎ ((q ≡ begin_of x) ⊎ (p ≡ begin_of x))
    kept p q t = at (sides p q t)
      where
        at : HasPart done p q ⊎ (IsAt p q y ⊎ (IsAt p q x ⊎ HasPart rest p q)) → joined p q ⊎ ((q ≡ begin_of x) ⊎ (p ≡ begin_of x))
        at (inl a) = inl (any-left (IsAt p q) done (z ∷ rest) a)
        at (inr (inl e)) = inr (inl (sym e.1 ∙ meet))
        at (inr (inr (inl e))) = inr (inr (sym e.0))
        at (inr (inr (inr a))) = inl (any-right (IsAt p q) done (z ∷ rest) (any-there (IsAt p q) z rest a))

    inside : (p q : ℕ) → joined p q → told p q ⊎ ((p ≡ begin_of y) × (q ≡ end_of x))
    inside p q t = at (any-sides (IsAt p q) done (z ∷ rest) t)
      where
        other : IsAt p q z ⊎ HasPart rest p q → told p q ⊎ ((p ≡ begin_of y) × (q ≡ end_of x))
        other (inl e) = inr (sym e.0 ∙ begins-z, sym e.1 ∙ ends-z)
        other (inr a) = inl (any-right (IsAt p q) done (y ∷ x ∷ rest) (any-there (IsAt p q) y (x ∷ rest) (any-there (IsAt p q) x rest a)))

        at : HasPart done p q ⊎ HasPart (z ∷ rest) p q → told p q ⊎ ((p ≡ begin_of y) × (q ≡ end_of x))
        at (inl a) = inl (any-left (IsAt p q) done (y ∷ x ∷ rest) a)
        at (inr b) = other (any-cases (IsAt p q) z rest b)

    -- a part that alone begins where another alone ends may be joined with it
    pub longest-met : (p q : ℕ) → IsLongestWay (HasPart (done ++ (y ∷ x ∷ rest))) p q → IsLongestWay (HasPart (done ++ (z ∷ rest))) p q
    longest-met = longest-joined {told = told} {joined = joined} (begin_of y) (begin_of x) (end_of x) (omega (arith, first, meet)) second
        (any-right (IsAt (begin_of y) (begin_of x)) done (y ∷ x ∷ rest) (any-here (IsAt (begin_of y) (begin_of x)) y (x ∷ rest) (refl, meet)))
        (any-right (IsAt (begin_of x) (end_of x)) done (y ∷ x ∷ rest) (any-there (IsAt (begin_of x) (end_of x)) y (x ∷ rest) (any-here (IsAt (begin_of x) (end_of x)) x rest (refl, refl))))
        (any-right (IsAt (begin_of y) (end_of x)) done (z ∷ rest) (any-here (IsAt (begin_of y) (end_of x)) z rest (begins-z, ends-z)))
        ends begins kept inside

  -- a part that leads nowhere, or stands in what follows too, may be left out
  pub longest-dropped : (front : List (Part A)) (x : Part A) (rest : List (Part A)) → HasPart rest (begin_of x) (end_of x) ⊎ (begin_of x ≡ end_of x)
      → (p q : ℕ) → IsLongestWay (HasPart (front ++ (x ∷ rest))) p q → IsLongestWay (HasPart (front ++ rest)) p q
  longest-dropped front x rest why = longest-without {told = HasPart (front ++ (x ∷ rest))} {fewer = HasPart (front ++ rest)} inside others
    where
      inside : (p q : ℕ) → HasPart (front ++ rest) p q → HasPart (front ++ (x ∷ rest)) p q
      inside p q t = at (any-sides (IsAt p q) front rest t)
        where
          at : HasPart front p q ⊎ HasPart rest p q → HasPart (front ++ (x ∷ rest)) p q
          at (inl a) = any-left (IsAt p q) front (x ∷ rest) a
          at (inr a) = any-right (IsAt p q) front (x ∷ rest) (any-there (IsAt p q) x rest a)

      others : (p q : ℕ) → HasPart (front ++ (x ∷ rest)) p q → HasPart (front ++ rest) p q ⊎ (p ≡ q)
      others p q t = at (any-sides (IsAt p q) front (x ∷ rest) t)
        where
          here : IsAt p q x → HasPart rest (begin_of x) (end_of x) ⊎ (begin_of x ≡ end_of x) → HasPart (front ++ rest) p q ⊎ (p ≡ q)
          here e (inl a) = inl (any-right (IsAt p q) front rest (subst (λ r. HasPart rest p r) e.1 (subst (λ r. HasPart rest r (end_of x)) e.0 a)))
          here e (inr same) = inr (sym e.0 ∙ same ∙ e.1)

          behind : IsAt p q x ⊎ HasPart rest p q → HasPart (front ++ rest) p q ⊎ (p ≡ q)
          behind (inl e) = here e why
          behind (inr a) = inl (any-right (IsAt p q) front rest a)

          at : HasPart front p q ⊎ HasPart (x ∷ rest) p q → HasPart (front ++ rest) p q ⊎ (p ≡ q)
          at (inl a) = inl (any-left (IsAt p q) front rest a)
          at (inr b) = behind (any-cases (IsAt p q) x rest b)

  -- a piece that is done
  pub ended-push : (done more : List (Part A)) (last : Part A) (end next : ℕ) → more ≡ done ++ last ∷ [] → end ≤ next → end_of last ≤ next → begin_of last < end_of last
      → All (λ w. (begin_of w < end_of w) × (end_of w ≤ end)) done → All (λ w. (begin_of w < end_of w) × (end_of w ≤ next)) more
  ended-push done more last end next is up on long all =
      subst (All (λ w. (begin_of w < end_of w) × (end_of w ≤ next))) (sym is)
      (All-push (λ w. (begin_of w < end_of w) × (end_of w ≤ next)) done last (All-weaker (λ w. (begin_of w < end_of w) × (end_of w ≤ end)) (λ w. (begin_of w < end_of w) × (end_of w ≤ next)) (λ w h. (h.0, le_trans h.1 up)) done all) (long, on))
