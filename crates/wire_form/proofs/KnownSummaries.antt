-- What is told of values of i64 is in the range of i64.
use Rattle.std.specs.Prelude.{◌≡◌, ℤ, pos, List, All, IfSome, fold, length, map}
use Rattle.std.specs.Int.{int_min, int_max}
use Rattle.std.proofs.Common.{sym, ap, ◌∙◌, subst, arith}
use Rattle.std.proofs.lemmas.Int.{clamps, ints}
use Rattle.std.proofs.lemmas.List.Elements.{All-map, All-weaker}
use Rattle.spliterator.specs.Values.{IsI64}
use Rattle.stages.specs.Wrapping.{wrapped-value}
use Rattle.collectors.specs.Reductions.{fold-reduced}
use Rattle.collectors.specs.Sums.{int_sum}
use Rattle.derived_collectors.specs.Facts.{Facts, no_facts, add_facts, facts_of}
use Rattle.wire_form.proofs.Known.{reduced-known}

least-known : (x y : ℤ) → IsI64 x → IsI64 y → IsI64 (int_min x y)
least-known x y u v = (omega (arith, clamps, ints, u, v), omega (arith, clamps, ints, u, v))

greatest-known : (x y : ℤ) → IsI64 x → IsI64 y → IsI64 (int_max x y)
greatest-known x y u v = (omega (arith, clamps, ints, u, v), omega (arith, clamps, ints, u, v))

module _ {X : Type 0} (number : X → ℤ) (is_value : X → Type 0) (numbers : (x : X) → is_value x → IsI64 (number x))
    (l : List X) (values : All is_value l) (f : Facts) (made : f ≡ fold (add_facts number) no_facts l) where
  bounds : All IsI64 (map number l)
  bounds = All-map IsI64 number l (All-weaker is_value (λ x. IsI64 (number x)) numbers l values)

  pub known-count : IsI64 f.0.0
  known-count = subst IsI64 (sym (ap (λ g. g.0.0) (made ∙ facts_of number l))) (wrapped-value (pos (length l)))

  pub known-sum : IsI64 f.0.1
  known-sum = subst IsI64 (sym (ap (λ g. g.0.1) (made ∙ facts_of number l))) (wrapped-value (int_sum (map number l)))

  pub known-least : IfSome f.1.0 IsI64
  known-least = subst (λ o. IfSome o IsI64)
      (sym (ap (λ g. g.1.0) (made ∙ facts_of number l) ∙ sym (fold-reduced int_min (map number l)))) (reduced-known int_min IsI64 least-known (map number l) bounds)

  pub known-greatest : IfSome f.1.1 IsI64
  known-greatest = subst (λ o. IfSome o IsI64)
      (sym (ap (λ g. g.1.1) (made ∙ facts_of number l) ∙ sym (fold-reduced int_max (map number l)))) (reduced-known int_max IsI64 greatest-known (map number l) bounds)
