-- Equality and order of what may have failed: each value stands below each error.
use Rattle.std.specs.Prelude.{◌≡◌, Bool, Result, Ok, Err, refl}
use Rattle.std.proofs.Common.{ap, sym, true≢false}
use Rattle.std.specs.Result.{result_eq, result_cmp, result_map_both}
use Rattle.std.specs.declared.cmp.Ordering.{Ordering}
use Rattle.std.specs.declared.cmp.Ordering.TheVariants.{Less, Equal, Greater}
use Rattle.std.specs.Ordering.{is_eq, is_lt, ordering_reverse}
use Rattle.std.specs.Cmp.{IsTotalOrder}
use Rattle.spliterator.specs.Values.{DecidesEquality}

ok-same : {T X : Type 0} {x y : T} → ◌≡◌ {A = Result T X} (Ok x) (Ok y) → x ≡ y
ok-same h = cc

err-same : {T X : Type 0} {x y : X} → ◌≡◌ {A = Result T X} (Err x) (Err y) → x ≡ y
err-same h = cc

ok-err : {T X P : Type 0} {x : T} {y : X} → ◌≡◌ {A = Result T X} (Ok x) (Err y) → P
ok-err h = absurd (cc)

greater-less : {P : Type 0} → Greater ≡ Less → P
greater-less h = absurd (true≢false (sym (ap is_lt h)))

less-equal : {P : Type 0} → Less ≡ Equal → P
less-equal h = absurd (true≢false (sym (ap is_eq h)))

greater-equal : {P : Type 0} → Greater ≡ Equal → P
greater-equal h = absurd (true≢false (sym (ap is_eq h)))

module _ {T X C D : Type 0} (content : T → C) (content' : X → D) where
  pub result_eq-contents : (eq : T → T → Bool) (eq' : X → X → Bool) (same : C → C → Bool) (same' : D → D → Bool)
      → ((x y : T) → eq x y ≡ same (content x) (content y)) → ((x y : X) → eq' x y ≡ same' (content' x) (content' y))
      → (x y : Result T X) → result_eq eq eq' x y ≡ result_eq same same' (result_map_both content content' x) (result_map_both content content' y)
  result_eq-contents eq eq' same same' h k (Ok x) (Ok y) = h x y
  result_eq-contents eq eq' same same' h k (Ok x) (Err y) = refl
  result_eq-contents eq eq' same same' h k (Err x) (Ok y) = refl
  result_eq-contents eq eq' same same' h k (Err x) (Err y) = k x y

  pub result_cmp-contents : (cmp : T → T → Ordering) (cmp' : X → X → Ordering) (order : C → C → Ordering) (order' : D → D → Ordering)
      → ((x y : T) → cmp x y ≡ order (content x) (content y)) → ((x y : X) → cmp' x y ≡ order' (content' x) (content' y))
      → (x y : Result T X) → result_cmp cmp cmp' x y ≡ result_cmp order order' (result_map_both content content' x) (result_map_both content content' y)
  result_cmp-contents cmp cmp' order order' h k (Ok x) (Ok y) = h x y
  result_cmp-contents cmp cmp' order order' h k (Ok x) (Err y) = refl
  result_cmp-contents cmp cmp' order order' h k (Err x) (Ok y) = refl
  result_cmp-contents cmp cmp' order order' h k (Err x) (Err y) = k x y

module _ {C D : Type 0} (same : C → C → Bool) (same' : D → D → Bool) where
  pub result_cmp-ties : (order : C → C → Ordering) (order' : D → D → Ordering) → ((c d : C) → same c d ≡ is_eq (order c d)) → ((c d : D) → same' c d ≡ is_eq (order' c d))
      → (c d : Result C D) → result_eq same same' c d ≡ is_eq (result_cmp order order' c d)
  result_cmp-ties order order' h k (Ok c) (Ok d) = h c d
  result_cmp-ties order order' h k (Ok c) (Err d) = refl
  result_cmp-ties order order' h k (Err c) (Ok d) = refl
  result_cmp-ties order order' h k (Err c) (Err d) = k c d

  pub result_eq-decides : DecidesEquality same → DecidesEquality same' → DecidesEquality (result_eq same same')
  result_eq-decides d e (Ok x) (Ok y) = (λ h. ap (λ c. Ok c) ((d x y).0 h), λ h. (d x y).1 (ok-same h))
  result_eq-decides d e (Ok x) (Err y) = (λ h. absurd (true≢false (sym h)), λ h. ok-err h)
  result_eq-decides d e (Err x) (Ok y) = (λ h. absurd (true≢false (sym h)), λ h. ok-err (sym h))
  result_eq-decides d e (Err x) (Err y) = (λ h. ap (λ c. Err c) ((e x y).0 h), λ h. (e x y).1 (err-same h))

module _ {C D : Type 0} {r : C → C → Ordering} {s : D → D → Ordering} where
  antisymm : IsTotalOrder r → IsTotalOrder s → (x y : Result C D) → result_cmp r s x y ≡ ordering_reverse (result_cmp r s y x)
  antisymm o p (Ok x) (Ok y) = o.antisymm x y
  antisymm o p (Ok x) (Err y) = refl
  antisymm o p (Err x) (Ok y) = refl
  antisymm o p (Err x) (Err y) = p.antisymm x y

  trans : IsTotalOrder r → IsTotalOrder s → (x y z : Result C D) → result_cmp r s x y ≡ Less → result_cmp r s y z ≡ Less → result_cmp r s x z ≡ Less
  trans o p (Ok x) (Ok y) (Ok z) h k = o.trans x y z h k
  trans o p (Ok x) (Ok y) (Err z) h k = refl
  trans o p (Ok x) (Err y) (Ok z) h k = greater-less k
  trans o p (Ok x) (Err y) (Err z) h k = refl
  trans o p (Err x) (Ok y) (Ok z) h k = h
  trans o p (Err x) (Ok y) (Err z) h k = greater-less h
  trans o p (Err x) (Err y) (Ok z) h k = k
  trans o p (Err x) (Err y) (Err z) h k = p.trans x y z h k

  congr : IsTotalOrder r → IsTotalOrder s → (x y z : Result C D) → result_cmp r s x y ≡ Equal → result_cmp r s x z ≡ result_cmp r s y z
  congr o p (Ok x) (Ok y) (Ok z) h = o.congr x y z h
  congr o p (Ok x) (Ok y) (Err z) h = refl
  congr o p (Ok x) (Err y) z h = less-equal h
  congr o p (Err x) (Ok y) z h = greater-equal h
  congr o p (Err x) (Err y) (Ok z) h = refl
  congr o p (Err x) (Err y) (Err z) h = p.congr x y z h

  pub result_cmp-total : IsTotalOrder r → IsTotalOrder s → IsTotalOrder (result_cmp r s)
  result_cmp-total o p = record { antisymm = antisymm o p; trans = trans o p; congr = congr o p }
