-- Equality and order of what may be absent: an absent value stands below each that is there.
use Rattle.std.specs.Prelude.{◌≡◌, Bool, Option, Some, None, refl}
use Rattle.std.proofs.Common.{ap, sym, true≢false}
use Rattle.std.proofs.lemmas.Option.{none-some, same_Some}
use Rattle.std.specs.Option.{option_eq, option_cmp, option_map}
use Rattle.std.specs.declared.cmp.Ordering.{Ordering}
use Rattle.std.specs.Ordering.{is_eq}
use Rattle.spliterator.specs.Values.{DecidesEquality}

pub option_eq-contents : {T C : Type 0} (content : T → C) (eq : T → T → Bool) (same : C → C → Bool) → ((x y : T) → eq x y ≡ same (content x) (content y))
    → (x y : Option T) → option_eq eq x y ≡ option_eq same (option_map content x) (option_map content y)
option_eq-contents content eq same h None None = refl
option_eq-contents content eq same h None (Some y) = refl
option_eq-contents content eq same h (Some x) None = refl
option_eq-contents content eq same h (Some x) (Some y) = h x y

pub option_cmp-contents : {T C : Type 0} (content : T → C) (cmp : T → T → Ordering) (order : C → C → Ordering) → ((x y : T) → cmp x y ≡ order (content x) (content y))
    → (x y : Option T) → option_cmp cmp x y ≡ option_cmp order (option_map content x) (option_map content y)
option_cmp-contents content cmp order h None None = refl
option_cmp-contents content cmp order h None (Some y) = refl
option_cmp-contents content cmp order h (Some x) None = refl
option_cmp-contents content cmp order h (Some x) (Some y) = h x y

pub option_cmp-ties : {C : Type 0} (same : C → C → Bool) (order : C → C → Ordering) → ((c d : C) → same c d ≡ is_eq (order c d))
    → (c d : Option C) → option_eq same c d ≡ is_eq (option_cmp order c d)
option_cmp-ties same order h None None = refl
option_cmp-ties same order h None (Some d) = refl
option_cmp-ties same order h (Some c) None = refl
option_cmp-ties same order h (Some c) (Some d) = h c d

pub option_eq-decides : {C : Type 0} (same : C → C → Bool) → DecidesEquality same → DecidesEquality (option_eq same)
option_eq-decides same d None None = (λ e. refl, λ e. refl)
option_eq-decides same d None (Some y) = (λ e. absurd (true≢false (sym e)), λ e. absurd (none-some y e))
option_eq-decides same d (Some x) None = (λ e. absurd (true≢false (sym e)), λ e. absurd (none-some x (sym e)))
option_eq-decides same d (Some x) (Some y) = (λ e. ap (λ c. Some c) ((d x y).0 e), λ e. (d x y).1 (same_Some x y e))
