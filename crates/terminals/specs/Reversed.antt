-- An order turned round, and its laws.
use Rattle.std.specs.Prelude.{◌≡◌, Bool, refl}
use Rattle.std.proofs.Common.{ap, sym, ◌∙◌}
use Rattle.std.specs.Cmp.{IsTotalOrder}
use Rattle.std.specs.Ordering.{is_eq, ordering_reverse}
use Rattle.std.specs.declared.cmp.Ordering.{Ordering}
use Rattle.std.specs.declared.cmp.Ordering.TheVariants.{Less, Equal, Greater}

-- java.util.Comparator, reversed
abbrev pub reversed : {C : Type 0} → (C → C → Ordering) → C → C → Ordering
reversed order c d = order d c

eq-reversed : (o : Ordering) → is_eq (ordering_reverse o) ≡ is_eq o
eq-reversed Less = refl
eq-reversed Equal = refl
eq-reversed Greater = refl

module _ {C : Type 0} (order : C → C → Ordering) (total : IsTotalOrder order) where
  pub reversed-total : IsTotalOrder (reversed order)
  reversed-total = record {
    antisymm = λ x y. total.antisymm y x;
    trans = λ x y z below above. total.trans z y x above below;
    congr = λ x y z tie. total.antisymm z x ∙ ap ordering_reverse (sym (total.congr y x z tie)) ∙ sym (total.antisymm z y);
  }

  pub reversed-ties : (same : C → C → Bool) → ((c d : C) → same c d ≡ is_eq (order c d)) → (c d : C) → same c d ≡ is_eq (reversed order c d)
  reversed-ties same ties c d = ties c d ∙ ap is_eq (total.antisymm c d) ∙ eq-reversed (order d c)
