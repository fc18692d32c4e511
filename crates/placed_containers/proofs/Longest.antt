-- The longest ways that are kept where parts are left out, or two become one.
use Rattle.std.specs.Prelude.{◌≡◌, ◌≢◌, ◌<◌, ◌⊎◌, ℕ, false, List, [], ◌∷◌, nat_eq}
use Rattle.std.proofs.Common.{inl, inr, ⊎_elim, sym, ◌∙◌, subst, arith, eqb-true, eq-eqb, true≢false}
use Rattle.stages.specs.Tests.{either}
use Rattle.placed_containers.specs.Ways.{IsWay, IsLongestWay}

module _ {told other : ℕ → ℕ → Type 0} where
  pub way-to : ((p q : ℕ) → told p q → other p q) → (p : ℕ) (stops : List ℕ) (q : ℕ) → IsWay told p stops q → IsWay other p stops q
  way-to to p [] q e = e
  way-to to p (s ∷ stops) q way = (to p s way.0, way-to to s stops q way.1)

  -- what tells the same has the same longest ways
  pub longest-same : ((p q : ℕ) → told p q → other p q) → ((p q : ℕ) → other p q → told p q) → (p q : ℕ) → IsLongestWay told p q → IsLongestWay other p q
  longest-same to from p q l = (λ o lt t. l.0 o lt (from o p t), λ r lt t. l.1 r lt (from q r t), l.2, way-to to p l.2 q l.3)

module _ {told fewer : ℕ → ℕ → Type 0} (inside : (p q : ℕ) → fewer p q → told p q) (others : (p q : ℕ) → told p q → fewer p q ⊎ (p ≡ q)) where
  way-without : (p : ℕ) (stops : List ℕ) (q : ℕ) → IsWay told p stops q → (left : List ℕ) × IsWay fewer p left q
  way-without p [] q e = ([], e)
  way-without p (s ∷ stops) q way =
      let rest = way-without s stops q way.1 in
      ⊎_elim (λ t. (s ∷ rest.0, (t, rest.1))) (λ e. (rest.0, subst (λ r. IsWay fewer r rest.0 q) (sym e) rest.1)) (others p s way.0)

  -- what leads nowhere may be left out
  pub longest-without : (p q : ℕ) → IsLongestWay told p q → IsLongestWay fewer p q
  longest-without p q l = let left = way-without p l.2 q l.3 in (λ o lt t. l.0 o lt (inside o p t), λ r lt t. l.1 r lt (inside q r t), left.0, left.1)

module _ {told joined : ℕ → ℕ → Type 0} (a j b : ℕ) (first : a < j) (second : j < b)
    (before : told a j) (behind : told j b) (both : joined a b)
    (ends : (o : ℕ) → told o j → o ≡ a) (begins : (r : ℕ) → told j r → r ≡ b)
    (kept : (p q : ℕ) → told p q → joined p q ⊎ ((q ≡ j) ⊎ (p ≡ j)))
    (inside : (p q : ℕ) → joined p q → told p q ⊎ ((p ≡ a) × (q ≡ b))) where
  stays : (p q : ℕ) → p ≢ j → q ≢ j → told p q → joined p q
  stays p q np nq t = at (kept p q t)
    where
      at : joined p q ⊎ ((q ≡ j) ⊎ (p ≡ j)) → joined p q
      at (inl k) = k
      at (inr (inl e)) = absurd (nq e)
      at (inr (inr e)) = absurd (np e)

  apart : (p : ℕ) → nat_eq p j ≡ false → p ≢ j
  apart p n e = true≢false (sym (eq-eqb p j e) ∙ n)

  way-joined : (p : ℕ) (stops : List ℕ) (q : ℕ) → p ≢ j → q ≢ j → IsWay told p stops q → (left : List ℕ) × IsWay joined p left q
  way-joined p [] q np nq e = ([], e)
  way-joined p (s ∷ []) q np nq way = (s ∷ [], (stays p s np (λ e. nq (sym way.1 ∙ e)) way.0, way.1))
  way-joined p (s ∷ r ∷ stops) q np nq way =
      either (nat_eq s j)
      (λ t. let e : s ≡ j = eqb-true s j t in
      let here : p ≡ a = ends p (subst (λ k. told p k) e way.0) in
      let there : r ≡ b = begins r (subst (λ k. told k r) e way.1.0) in
      let rest = way-joined r stops q (λ k. let eq = k in omega (arith, eq, there, second)) nq way.1.1 in
      (r ∷ rest.0, (subst (λ k. joined k r) (sym here) (subst (λ k. joined a k) (sym there) both), rest.1)))
      (λ n. let rest = way-joined s (r ∷ stops) q (apart s n) nq way.1 in (s ∷ rest.0, (stays p s np (apart s n) way.0, rest.1)))

  -- two that meet where nothing else ends or begins may become one
  pub longest-joined : (p q : ℕ) → IsLongestWay told p q → IsLongestWay joined p q
  longest-joined p q l =
      let np : p ≢ j = λ e. l.0 a (subst (λ k. a < k) (sym e) first) (subst (λ k. told a k) (sym e) before) in
      let nq : q ≢ j = λ e. l.1 b (subst (λ k. k < b) (sym e) second) (subst (λ k. told k b) (sym e) behind) in
      let left = way-joined p l.2 q np nq l.3 in
      (λ o lt t. up o lt (inside o p t), λ r lt t. on r lt (inside q r t), left.0, left.1)
    where
      up : (o : ℕ) → o < p → told o p ⊎ ((o ≡ a) × (p ≡ b)) → ⊥
      up o lt (inl t) = l.0 o lt t
      up o lt (inr e) = l.0 j (subst (λ k. j < k) (sym e.1) second) (subst (λ k. told j k) (sym e.1) behind)

      on : (r : ℕ) → q < r → told q r ⊎ ((q ≡ a) × (r ≡ b)) → ⊥
      on r lt (inl t) = l.1 r lt t
      on r lt (inr e) = l.1 j (subst (λ k. k < j) (sym e.0) first) (subst (λ k. told k j) (sym e.0) before)
