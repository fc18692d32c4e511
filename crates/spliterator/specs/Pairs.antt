-- Equality and order of pairs, part by part from the first, and equality of tuples.
use Rattle.std.specs.Prelude.{◌≡◌, Bool, ◌&&◌, Decides}
use Rattle.std.proofs.Common.{ap, sym, ◌∙◌}
use Rattle.std.specs.Cmp.{IsTotalOrder, then_total, on_total, both_tied}
use Rattle.std.specs.declared.cmp.Ordering.{Ordering}
use Rattle.std.specs.Ordering.{is_eq, ordering_then}
use Rattle.std.proofs.lemmas.Bool.Decides.{Decides-and, Decides-like}
use Rattle.spliterator.specs.Values.{DecidesEquality}

abbrev pub both : {A B : Type 0} → (A → A → Bool) → (B → B → Bool) → A × B → A × B → Bool
both e f x y = e x.0 y.0 && f x.1 y.1

abbrev pub by_first : {A B : Type 0} → (A → A → Ordering) → (B → B → Ordering) → A × B → A × B → Ordering
by_first r s x y = ordering_then (r x.0 y.0) (s x.1 y.1)

pub both-decides : {A B : Type 0} (e : A → A → Bool) (f : B → B → Bool) → DecidesEquality e → DecidesEquality f → DecidesEquality (both e f)
both-decides e f d g x y = Decides-like (both e f x y) (λ h i. (h.0 i, h.1 i)) (λ p. ((λ i. (p i).0), (λ i. (p i).1))) (Decides-and (e x.0 y.0) (f x.1 y.1) (d x.0 y.0) (g x.1 y.1))

pub by_first-total : {A B : Type 0} {r : A → A → Ordering} {s : B → B → Ordering} → IsTotalOrder r → IsTotalOrder s → IsTotalOrder (by_first r s)
by_first-total o p = then_total (on_total (λ t. t.0) o) (on_total (λ t. t.1) p)

pub by_first-ties : {A B : Type 0} (e : A → A → Bool) (f : B → B → Bool) (r : A → A → Ordering) (s : B → B → Ordering)
    → ((a b : A) → e a b ≡ is_eq (r a b)) → ((a b : B) → f a b ≡ is_eq (s a b)) → (x y : A × B) → both e f x y ≡ is_eq (by_first r s x y)
by_first-ties e f r s h k x y = both_tied (e x.0 y.0) (f x.1 y.1) (r x.0 y.0) (s x.1 y.1) (h x.0 y.0) (k x.1 y.1)

module _ {K : Type 0} where
  -- the test answers true exactly at tuples with the same parts
  abbrev pub DecidesParts : {P : Type 0} → (K → P) → (K → K → Bool) → Type 0
  DecidesParts parts e = (x y : K) → Decides (e x y) (parts x ≡ parts y)

  -- .. and with one part more
  pub also : {P Q : Type 0} {parts : K → P} {e : K → K → Bool} {f : Q → Q → Bool} → DecidesParts parts e → (part : K → Q) → DecidesEquality f
      → DecidesParts {P = P × Q} (λ t. (parts t, part t)) (λ x y. e x y && f (part x) (part y))
  also {e = e} {f = f} d part g x y = Decides-like (e x y && f (part x) (part y)) (λ h i. (h.0 i, h.1 i)) (λ p. ((λ i. (p i).0), (λ i. (p i).1)))
      (Decides-and (e x y) (f (part x) (part y)) (d x y) (g (part x) (part y)))

  -- .. and at equal tuples, where the parts are all of it
  pub whole : {P : Type 0} {parts : K → P} {e : K → K → Bool} (made : P → K) → ((t : K) → made (parts t) ≡ t) → DecidesParts parts e → DecidesEquality e
  whole {parts = parts} {e} made all d x y = Decides-like (e x y) (λ p. sym (all x) ∙ ap made p ∙ all y) (ap parts) (d x y)
