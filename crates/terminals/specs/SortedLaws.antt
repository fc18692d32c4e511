-- There is at most one sorted list.
use Rattle.std.specs.Prelude.{◌≡◌, zero, suc, Bool, true, false, cond, not, ◌&&◌, All, List, [], ◌∷◌, refl}
use Rattle.std.proofs.Common.{ap, ap₂, sym, true≢false, ◌∙◌, arith}
use Rattle.std.proofs.lemmas.List.Elements.{All-cons, All-head, All-tail}
use Rattle.std.proofs.lemmas.List.Sorted.{ranks_by, sorted_far}
use Rattle.std.specs.Cmp.{IsTotalOrder, IsStrictWeakOrder}
use Rattle.std.specs.List.{AllPairs, filter}
use Rattle.std.specs.List.Sorted.{ties}
use Rattle.std.specs.Ordering.{is_lt}
use Rattle.std.specs.declared.cmp.Ordering.{Ordering}
use Rattle.terminals.specs.Sorted.{IsSortedList, by_key}

module _ {C : Type 0} where
  -- no member passes
  filter-none : (p : C → Bool) (l : List C) → All (λ c. p c ≡ false) l → filter p l ≡ []
  filter-none p [] none = refl
  filter-none p (c ∷ l) none = rw (All-head (λ d. p d ≡ false) c l none) (filter-none p l (All-tail (λ d. p d ≡ false) c l none))

  filter-first : (p : C → Bool) (c : C) (l : List C) → p c ≡ true → filter p (c ∷ l) ≡ c ∷ filter p l
  filter-first p c l passes = rw passes refl

  none≢some : (c : C) (l : List C) → [] ≡ c ∷ l → ⊥
  none≢some c l h = cc

  same-head : (c d : C) (l m : List C) → c ∷ l ≡ d ∷ m → c ≡ d
  same-head c d l m h = cc

  same-tail : (c d : C) (l m : List C) → c ∷ l ≡ d ∷ m → l ≡ m
  same-tail c d l m h = cc

  without-head : (b : Bool) (c : C) (l m : List C) → cond b (c ∷ l) l ≡ cond b (c ∷ m) m → l ≡ m
  without-head true c l m h = same-tail c c l m h
  without-head false c l m h = h

not-either : (p q : Bool) → not p && not q ≡ true → (p ≡ false) × (q ≡ false)
not-either true q h = absurd (true≢false (sym h))
not-either false true h = absurd (true≢false (sym h))
not-either false false h = (refl, refl)

alike : (p q : Bool) → (p ≡ false → q ≡ false) → (q ≡ false → p ≡ false) → p ≡ q
alike true true to from = refl
alike true false to from = from refl
alike false true to from = sym (to refl)
alike false false to from = refl

module _ {C : Type 0} (below : C → C → Bool) (weak : IsStrictWeakOrder below) where
  not-below-itself : (c : C) (b : Bool) → below c c ≡ b → below c c ≡ false
  not-below-itself c true h = weak.one_way c c h
  not-below-itself c false h = h

  pub ties-itself : (c : C) → ties below c c ≡ true
  ties-itself c = rw (not-below-itself c (below c c) refl) refl

  -- what ties with c ties with all that c ties with
  pub ties-alike : (c d e : C) → ties below c d ≡ true → ties below c e ≡ ties below d e
  ties-alike c d e h =
      let one = not-either (below c d) (below d c) h in
      ap₂ (λ p q. not p && not q)
      (alike (below c e) (below d e) (weak.chain d c e one.1) (weak.chain c d e one.0))
      (alike (below e c) (below e d) (λ g. weak.chain e c d g one.0) (λ g. weak.chain e d c g one.1))

  -- what stands behind d doesn't tie with c, which is below d
  apart : (c d e : C) → below c d ≡ true → below e d ≡ false → (b : Bool) → below c e ≡ b → ties below c e ≡ false
  apart c d e low high true h = rw h refl
  apart c d e low high false h = absurd (true≢false (sym low ∙ weak.chain c e d h high))

  pub no-tie : (c d : C) (l : List C) → below c d ≡ true → All (λ e. below e d ≡ false) l → filter (ties below c) (d ∷ l) ≡ []
  no-tie c d l low high =
      filter-none (ties below c) (d ∷ l)
      (All-cons (λ e. ties below c e ≡ false) d l
      (apart c d d low (not-below-itself d (below d d) refl) (below c d) refl)
      (λ k e inside. apart c d _ low (high k e inside) _ refl))

  -- the least of both lists
  least : (a b : C) (s t : List C) → All (λ e. below e a ≡ false) s → All (λ e. below e b ≡ false) t
      → ((c : C) → filter (ties below c) (a ∷ s) ≡ filter (ties below c) (b ∷ t)) → (p q : Bool) → below a b ≡ p → below b a ≡ q → a ≡ b
  least a b s t above-a above-b same true q low high =
      absurd (none≢some a _ (sym (no-tie a b t low above-b) ∙ sym (same a) ∙ filter-first (ties below a) a s (ties-itself a)))
  least a b s t above-a above-b same false true low high =
      absurd (none≢some b _ (sym (no-tie b a s high above-a) ∙ same b ∙ filter-first (ties below b) b t (ties-itself b)))
  least a b s t above-a above-b same false false low high =
      let tie : ties below a b ≡ true = rw (low, high) refl in
      same-head a b _ _ (sym (filter-first (ties below a) a s (ties-itself a)) ∙ same a ∙ filter-first (ties below a) b t tie)

  once : (s t : List C) → AllPairs (λ c d. below d c ≡ false) s → AllPairs (λ c d. below d c ≡ false) t
      → ((c : C) → filter (ties below c) s ≡ filter (ties below c) t) → s ≡ t
  once [] [] up-s up-t same = refl
  once [] (b ∷ t) up-s up-t same = absurd (none≢some b _ (same b ∙ filter-first (ties below b) b t (ties-itself b)))
  once (a ∷ s) [] up-s up-t same = absurd (none≢some a _ (sym (same a) ∙ filter-first (ties below a) a s (ties-itself a)))
  once (a ∷ s) (b ∷ t) up-s up-t same =
      let above-a : All (λ e. below e a ≡ false) s = λ k d inside. up-s zero (suc k) d (omega arith) (omega arith) in
      let above-b : All (λ e. below e b ≡ false) t = λ k d inside. up-t zero (suc k) d (omega arith) (omega arith) in
      let head : a ≡ b = least a b s t above-a above-b same _ _ refl refl in
      let tails : (c : C) → filter (ties below c) s ≡ filter (ties below c) t = λ c.
      without-head (ties below c a) a _ _ (same c ∙ ap (λ d. filter (ties below c) (d ∷ t)) (sym head)) in
      ap₂ ◌∷◌ head
      (once s t (λ i j d low inside. up-s (suc i) (suc j) d (omega arith) (omega arith)) (λ i j d low inside. up-t (suc i) (suc j) d (omega arith) (omega arith)) tails)

-- two lists that are the list, sorted by its members' keys, are one
pub sorted_by_key-once : {C K : Type 0} (key : C → K) (order : K → K → Ordering) → IsTotalOrder order
    → (list s t : List C) → IsSortedList (by_key key order) list s → IsSortedList (by_key key order) list t → s ≡ t
sorted_by_key-once {C} key order total list s t a b =
    let below : C → C → Bool = λ c d. is_lt (order (key c) (key d)) in
    let weak : IsStrictWeakOrder below = ranks_by total key in
    once below weak s t
    (λ i j d low inside. sorted_far below weak s a.ascending i j d (omega arith) inside)
    (λ i j d low inside. sorted_far below weak t b.ascending i j d (omega arith) inside)
    (λ c. a.stable c ∙ sym (b.stable c))
