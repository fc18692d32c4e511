-- Items that ascend are their own sorted list.
use Rattle.std.specs.Prelude.{◌≡◌, ◌+◌, false, IsTrue, List, refl}
use Rattle.std.proofs.Common.{ap, sym, true≢false, ◌∙◌, arith}
use Rattle.std.proofs.lemmas.List.Sorted.{IsPermutation-refl}
use Rattle.std.specs.Cmp.{IsTotalOrder}
use Rattle.std.specs.List.{AllPairs}
use Rattle.std.specs.Ordering.{is_le, is_lt, ordering_reverse}
use Rattle.std.specs.declared.cmp.Ordering.{Ordering}
use Rattle.std.specs.declared.cmp.Ordering.TheVariants.{Less, Equal, Greater}
use Rattle.terminals.specs.Sorted.{IsSortedList}

not-below : (o : Ordering) → IsTrue (is_le o) → is_lt (ordering_reverse o) ≡ false
not-below Less h = refl
not-below Equal h = refl
not-below Greater h = absurd (true≢false (sym h))

pub sorted-already : {C : Type 0} (order : C → C → Ordering) → IsTotalOrder order → (list : List C)
    → AllPairs (λ c d. IsTrue (is_le (order c d))) list → IsSortedList order list list
sorted-already order total list up =
    record {
      permutation = IsPermutation-refl list;
      ascending = λ k d low within. ap is_lt (total.antisymm _ _) ∙ not-below _ (up k (k + 1) d (omega arith) within);
      stable = λ c. refl;
    }
