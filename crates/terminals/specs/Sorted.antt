-- What sorting a list gives.
use Rattle.std.specs.Prelude.{List, map}
use Rattle.std.specs.declared.cmp.Ordering.{Ordering}
use Rattle.std.specs.List.Sorted.{IsPermutation, IsSorted, IsStable}

-- `sorted` has the members of the list, they ascend, and those that tie stand in the order that they have in the list.
-- There is at most one such list (`sorted_by_key-once` of SortedLaws, with an item as its own key).
-- java.util.stream.Stream, sorted
pub record IsSortedList {C : Type 0} (order : C → C → Ordering) (list sorted : List C) : Type 0 where
  pub permutation : IsPermutation list sorted
  pub ascending : IsSorted order sorted
  pub stable : IsStable order list sorted

-- two values by the order of their keys
-- java.util.Comparator, comparing
abbrev pub by_key : {C K : Type 0} → (C → K) → (K → K → Ordering) → C → C → Ordering
by_key key order c d = order (key c) (key d)

-- each member behind its key
abbrev pub beside_keys : {C K : Type 0} → (C → K) → List C → List (K × C)
beside_keys key list = map (λ c. (key c, c)) list
