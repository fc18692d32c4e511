-- The first of the best items by a key, and the laws of its collector.
use Rattle.std.specs.Prelude.{◌≡◌, Bool, true, cond, List, [], ◌∷◌, fold, map, length, slice_get, refl, ⊤, Option, Some, None, option_map}
use Rattle.std.specs.declared.cmp.Ordering.{Ordering}
use Rattle.std.specs.Ordering.{is_lt}
use Rattle.std.specs.Cmp.{IsTotalOrder, IsStrictWeakOrder}
use Rattle.std.specs.List.{IsFirstBest, best_of}
use Rattle.std.specs.Option.{MatchOption}
use Rattle.std.proofs.Common.{sym, ap, subst, ◌∙◌, true≢false}
use Rattle.std.proofs.lemmas.List.MinMax.{ranks_by, IsStrictWeakOrder-flip, IsFirstBest-from_best_of}
use Rattle.std.proofs.lemmas.Option.{slice_get-get_or}
use Rattle.stages.specs.Operators.{IsAssociative}
use Rattle.stages.specs.Tests.{either}
use Rattle.collectors.specs.Laws.{CollectorLaws}
use Rattle.collectors.specs.NestedLaws.{add_image, mapping_laws, fold-image}
use Rattle.derived_collectors.specs.declared.best.Best.{Best}
use Rattle.derived_collectors.specs.declared.best.Best.TheVariants.{Least, Greatest}
use Rattle.collectors.specs.Reductions.{reduced, reduce_add, reduce_merge, reduce_laws, fold-reduced}

-- whether of two keys the first is strictly the better one
abbrev pub is_better : {J : Type 0} → Best → (J → J → Ordering) → J → J → Bool
is_better Least order j k = is_lt (order j k)
is_better Greatest order j k = is_lt (order k j)

-- None of no items, else the item whose key none beats, and which beats each one before it.
-- java.util.stream.Collectors, minBy and maxBy; java.util.function.BinaryOperator, minBy and maxBy; java.util.Comparator, comparing.
abbrev pub IsFirstBestBy : {X J : Type 0} → (J → J → Bool) → (X → J) → List X → Option X → Type 0
IsFirstBestBy beats key l o =
    MatchOption o (l ≡ []) (λ x. (at : _) × IsFirstBest (λ x y. beats (key x) (key y)) l (length l) at × (slice_get l at ≡ Some x))

-- whether an item of key j takes the place of one that is kept, by its key
abbrev pub takes_place : {J : Type 0} → (J → J → Bool) → Option J → J → Bool
takes_place beats None j = true
takes_place beats (Some k) j = beats j k

pub better-ranks : {J : Type 0} (best : Best) (order : J → J → Ordering) → IsTotalOrder order → IsStrictWeakOrder (is_better best order)
better-ranks Least order total = ranks_by total (λ j. j)
better-ranks Greatest order total = IsStrictWeakOrder-flip (is_better Least order) (ranks_by total (λ j. j))

module _ {X J : Type 0} (beats : J → J → Bool) (key : X → J) where
  -- the second of two items beside their keys, where it beats the first
  abbrev better : X × J → X × J → X × J
  better p q = cond (beats q.1 p.1) q p

  -- an item beside its key
  abbrev keyed : X → X × J
  keyed x = (x, key x)

  -- An item is kept beside its key where it beats what is kept.
  abbrev pub best_add : Option (X × J) → X → Option (X × J)
  best_add kept x = add_image keyed None (reduce_add better) kept x

  -- what the right side keeps is kept where it beats what the left side keeps
  abbrev pub best_merge : Option (X × J) → Option (X × J) → Option (X × J)
  best_merge kept later = reduce_merge better kept later

  abbrev item_beats : X → X → Bool
  item_beats x y = beats (key x) (key y)

  better_keyed : (a x : X) → better (keyed a) (keyed x) ≡ keyed (cond (item_beats x a) x a)
  better_keyed a x =
      either (item_beats x a)
      (λ h. simp h)
      (λ h. simp h)

  better_from : (a : X) (l : List X) → fold better (keyed a) (map keyed l) ≡ keyed (best_of item_beats a l)
  better_from a [] = refl
  better_from a (x ∷ l) = ap (λ p. fold better p (map keyed l)) (better_keyed a x) ∙ better_from (cond (item_beats x a) x a) l

  module _ (ranks : IsStrictWeakOrder beats) where
    item_ranks : IsStrictWeakOrder item_beats
    item_ranks = record {
      one_way = λ x y. ranks.one_way (key x) (key y);
      chain = λ x y z. ranks.chain (key x) (key y) (key z);
    }

    first_best_of : (l : List X) → IsFirstBestBy beats key l (option_map (λ p. p.0) (reduced better (map keyed l)))
    first_best_of [] = refl
    first_best_of (a ∷ l) =
        let best = IsFirstBest-from_best_of item_ranks a l in
        let found : slice_get (a ∷ l) best.0 ≡ Some (best_of item_beats a l) = slice_get-get_or (a ∷ l) best.0 a best.1.0 ∙ ap Some best.2 in
        (best.0, best.1, found ∙ ap (λ p. Some p.0) (sym (better_from a l)))

    -- what is kept of a list is the first of its best items
    pub first_best : (l : List X) (kept : Option (X × J)) → kept ≡ fold best_add None l → IsFirstBestBy beats key l (option_map (λ p. p.0) kept)
    first_best l kept made =
        let is : reduced better (map keyed l) ≡ kept = sym (made ∙ fold-image keyed None (reduce_add better) l ∙ fold-reduced better (map keyed l)) in
        subst (λ o. IsFirstBestBy beats key l (option_map (λ p. p.0) o)) is (first_best_of l)

    over : (i j k : J) → beats i j ≡ true → beats j k ≡ true → beats i k ≡ true
    over i j k above below =
        either (beats i k)
        (λ h. h)
        (λ h. absurd (true≢false (sym above ∙ ranks.chain i k j h (ranks.one_way j k below))))

    better-associative : IsAssociative (λ _. ⊤) better
    better-associative p q r _ _ _ =
        either (beats q.1 p.1)
        (λ h. either (beats r.1 q.1)
        (λ i. let above = over r.1 q.1 p.1 i h in simp (h, i, above))
        (λ i. simp (h, i)))
        (λ h. either (beats r.1 q.1)
        (λ i. simp (h, i))
        (λ i. let under = ranks.chain r.1 q.1 p.1 i h in simp (h, i, under)))

    pub best_laws : (is_value : X → Type 0) → CollectorLaws is_value None best_add best_merge
    best_laws is_value =
        mapping_laws keyed None (reduce_add better) is_value (λ _. ⊤) (λ _ _. tt) (reduce_merge better)
        (reduce_laws better (λ _. ⊤) (λ _ _ _ _. tt) better-associative)
