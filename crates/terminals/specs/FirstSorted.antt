-- The first items of a sorted list, and the laws of their collector.
use Rattle.std.specs.Prelude.{◌≡◌, ℕ, Bool, List, [], ◌∷◌, fold, map, take, refl, ⊤}
use Rattle.std.proofs.Common.{ap, sym, ◌∙◌, arith}
use Rattle.std.proofs.lemmas.List.{take-map, take-take}
use Rattle.std.specs.Cmp.{IsTotalOrder, IsStrictWeakOrder}
use Rattle.std.specs.Ordering.{is_lt}
use Rattle.std.specs.declared.cmp.Ordering.{Ordering}
use Rattle.std.proofs.lemmas.List.Sorted.{ranks_by}
use Rattle.collectors.specs.Laws.{CollectorLaws}
use Rattle.collectors.specs.NestedLaws.{add_image, mapping_laws, fold-image}
use Rattle.stages.specs.Tests.{either}
use Rattle.terminals.specs.Sorted.{IsSortedList}
use Rattle.terminals.specs.Insertion.{insert_sorted, sorted_of, add_first, merge_sorted, merge_first, insert-front, merge-front, merge-nil, merge-insert, fold-first}

-- The sorted list of a list begins with the first ones, and these are so many, or all of it.
-- java.util.stream.Stream, sorted and limit
abbrev pub IsFrontOfSorted : {C : Type 0} → (C → C → Ordering) → ℕ → List C → List C → Type 0
IsFrontOfSorted {C} order number list first = (sorted : List C) × IsSortedList order list sorted × (first ≡ take number sorted)

module _ {X : Type 0} (below : X → X → Bool) (weak : IsStrictWeakOrder below) (number : ℕ) where
  whole-front : (l : List X) → take number (fold (add_first below number) [] l) ≡ fold (add_first below number) [] l
  whole-front l =
      ap (take number) (fold-first below number l) ∙ take-take number number (sorted_of below l) (omega arith) ∙ sym (fold-first below number l)

  pub front_laws : (is_value : X → Type 0) → CollectorLaws is_value [] (add_first below number) (merge_first below number)
  front_laws is_value = record {
    identity = λ l v. ap (take number) (merge-nil below (fold (add_first below number) [] l)) ∙ whole-front l;
    associativity = λ l r x v w u.
        let s : List X = fold (add_first below number) [] l in
        let t : List X = fold (add_first below number) [] r in
        second s (insert_sorted below t x)
        ∙ ap (take number) (merge-insert below weak s t x)
        ∙ sym (insert-front below number (merge_sorted below s t) x);
  }
    where
      second : (s t : List X) → take number (merge_sorted below s (take number t)) ≡ take number (merge_sorted below s t)
      second s t =
          sym (merge-front below s (take number t) number number number (omega arith) (omega arith))
          ∙ ap (λ u. take number (merge_sorted below (take number s) u)) (take-take number number t (omega arith))
          ∙ merge-front below s t number number number (omega arith) (omega arith)

-- whether of two members beside their keys the first has the lower key
abbrev pub key_below : {C K : Type 0} → (K → K → Ordering) → K × C → K × C → Bool
key_below order p q = is_lt (order p.0 q.0)

module _ {C K : Type 0} (order : K → K → Ordering) (key : C → K) where
  abbrev keyed : C → K × C
  keyed c = (key c, c)

  abbrev lower : K × C → K × C → Bool
  lower p q = key_below order p q

  -- An item beside its key is put in, and the first so many stay.
  abbrev pub add_keyed : ℕ → List (K × C) → C → List (K × C)
  add_keyed number kept x = add_image keyed [] (add_first lower number) kept x

  pub first_laws : IsTotalOrder order → (number : ℕ) (is_value : C → Type 0) → CollectorLaws is_value [] (add_keyed number) (merge_first lower number)
  first_laws total number is_value =
      mapping_laws keyed [] (add_first lower number) is_value (λ _. ⊤) (λ _ _. tt) (merge_first lower number)
      (front_laws lower (ranks_by total (λ p. p.0)) number (λ _. ⊤))

  abbrev pub member_below : C → C → Bool
  member_below c d = is_lt (order (key c) (key d))

  insert-keyed : (s : List C) (x : C) → insert_sorted lower (map keyed s) (key x, x) ≡ map keyed (insert_sorted member_below s x)
  insert-keyed [] x = refl
  insert-keyed (y ∷ s) x =
      let rest = insert-keyed s x in
      either (member_below x y)
      (λ h. simp h)
      (λ h. simp h (ap (λ l. (key y, y) ∷ l) rest))

  sorted-keyed_from : (s l : List C) → fold (insert_sorted lower) (map keyed s) (map keyed l) ≡ map keyed (fold (insert_sorted member_below) s l)
  sorted-keyed_from s [] = refl
  sorted-keyed_from s (x ∷ l) =
      ap (λ u. fold (insert_sorted lower) u (map keyed l)) (insert-keyed s x) ∙ sorted-keyed_from (insert_sorted member_below s x) l

  -- members beside their keys, without them
  members : (l : List C) → map (λ (p : K × C). p.1) (map keyed l) ≡ l
  members [] = refl
  members (c ∷ l) = ap (λ m. c ∷ m) (members l)

  -- what is kept of a list are the first ones of its sorted list
  pub first_of : (number : ℕ) (l : List C) (kept : List (K × C)) → kept ≡ fold (add_keyed number) [] l → map (λ p. p.1) kept ≡ take number (sorted_of member_below l)
  first_of number l kept made =
      let is : kept ≡ take number (map keyed (sorted_of member_below l)) =
      made ∙ fold-image keyed [] (add_first lower number) l ∙ fold-first lower number (map keyed l) ∙ ap (take number) (sorted-keyed_from [] l) in
      ap (map (λ p. p.1)) (is ∙ take-map keyed number (sorted_of member_below l)) ∙ members (take number (sorted_of member_below l))
