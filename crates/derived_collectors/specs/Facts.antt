-- Count, sum, least and greatest of numbers, side by side, and the laws of their collector.
use Rattle.std.specs.Prelude.{◌≡◌, ℤ, pos, List, fold, map, length, Option, None, ⊤}
use Rattle.std.specs.Int.{int_min, int_max}
use Rattle.std.proofs.Common.{arith, ap₂, ◌∙◌}
use Rattle.std.proofs.lemmas.Int.{clamps, ints}
use Rattle.stages.specs.Wrapping.{wrapped, wrapped_sum}
use Rattle.stages.specs.Operators.{IsAssociative}
use Rattle.collectors.specs.Laws.{CollectorLaws}
use Rattle.collectors.specs.Sums.{add_number, int_sum, total, count_total, sum_laws}
use Rattle.collectors.specs.Reductions.{reduced, reduce_add, reduce_merge, reduce_laws, fold-reduced}
use Rattle.collectors.specs.NestedLaws.{add_both, teeing_laws, fold-both, add_image, mapping_laws, fold-image}

-- count and sum, and the least and the greatest number
abbrev pub Facts : Type 0
Facts = (ℤ × ℤ) × (Option ℤ × Option ℤ)

-- those of no numbers
abbrev pub no_facts : Facts
no_facts = ((pos 0, pos 0), (None, None))

-- those of two lists of numbers, put together
abbrev pub merge_facts : Facts → Facts → Facts
merge_facts f g = ((wrapped_sum f.0.0 g.0.0, wrapped_sum f.0.1 g.0.1), (reduce_merge int_min f.1.0 g.1.0, reduce_merge int_max f.1.1 g.1.1))

int_min-associative : IsAssociative (λ _. ⊤) int_min
int_min-associative x y z _ _ _ = omega (arith, clamps, ints)

int_max-associative : IsAssociative (λ _. ⊤) int_max
int_max-associative x y z _ _ _ = omega (arith, clamps, ints)

module _ {X : Type 0} (number : X → ℤ) where
  abbrev add_totals : ℤ × ℤ → X → ℤ × ℤ
  add_totals p x = add_both (pos 0) (add_number (λ _. pos 1)) (pos 0) (add_number number) p x

  abbrev add_bound : (ℤ → ℤ → ℤ) → Option ℤ → X → Option ℤ
  add_bound join o x = add_image number None (reduce_add join) o x

  abbrev add_bounds : Option ℤ × Option ℤ → X → Option ℤ × Option ℤ
  add_bounds p x = add_both None (add_bound int_min) None (add_bound int_max) p x

  -- the number of a further item is told of
  abbrev pub add_facts : Facts → X → Facts
  add_facts f x = add_both (pos 0, pos 0) add_totals (None, None) add_bounds f x

  fold-bound : (join : ℤ → ℤ → ℤ) (l : List X) → fold (add_bound join) None l ≡ reduced join (map number l)
  fold-bound join l = fold-image number None (reduce_add join) l ∙ fold-reduced join (map number l)

  pub facts_of : (l : List X) → fold add_facts no_facts l ≡ ((wrapped (pos (length l)), wrapped (int_sum (map number l))), (reduced int_min (map number l), reduced int_max (map number l)))
  facts_of l =
      fold-both (pos 0, pos 0) add_totals (None, None) add_bounds l
      ∙ ap₂ (λ p q. (p, q))
      (fold-both (pos 0) (add_number (λ _. pos 1)) (pos 0) (add_number number) l ∙ ap₂ (λ a b. (a, b)) (count_total l) (total number l))
      (fold-both None (add_bound int_min) None (add_bound int_max) l ∙ ap₂ (λ a b. (a, b)) (fold-bound int_min l) (fold-bound int_max l))

  bound_laws : (is_value : X → Type 0) (join : ℤ → ℤ → ℤ) → IsAssociative (λ _. ⊤) join → CollectorLaws is_value None (add_bound join) (reduce_merge join)
  bound_laws is_value join associative =
      mapping_laws number None (reduce_add join) is_value (λ _. ⊤) (λ _ _. tt) (reduce_merge join)
      (reduce_laws join (λ _. ⊤) (λ _ _ _ _. tt) associative)

  pub facts_laws : (is_value : X → Type 0) → CollectorLaws is_value no_facts add_facts merge_facts
  facts_laws is_value =
      teeing_laws (pos 0, pos 0) add_totals (None, None) add_bounds is_value
      (λ p q. (wrapped_sum p.0 q.0, wrapped_sum p.1 q.1)) (λ p q. (reduce_merge int_min p.0 q.0, reduce_merge int_max p.1 q.1))
      (teeing_laws (pos 0) (add_number (λ _. pos 1)) (pos 0) (add_number number) is_value wrapped_sum wrapped_sum
      (sum_laws (λ _. pos 1) is_value) (sum_laws number is_value))
      (teeing_laws None (add_bound int_min) None (add_bound int_max) is_value (reduce_merge int_min) (reduce_merge int_max)
      (bound_laws is_value int_min int_min-associative) (bound_laws is_value int_max int_max-associative))
