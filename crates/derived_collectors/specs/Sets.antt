-- Sets in the order of their items' first occurrences, and the laws of their collector. A set is a grouping that keeps nothing of a group.
use Rattle.std.specs.Prelude.{◌≡◌, Bool, List, [], ◌∷◌, fold, map, refl, ⊤}
use Rattle.std.proofs.Common.{sym, ap, ◌∙◌}
use Rattle.spliterator.specs.Values.{DecidesEquality}
use Rattle.stages.specs.Distinct.{distinct}
use Rattle.collectors.specs.Laws.{CollectorLaws}
use Rattle.collectors.specs.Grouping.{group_add, group_merge, pairs}
use Rattle.collectors.specs.GroupingLaws.{grouping_laws}
use Rattle.collectors.specs.GroupingResults.{grouped}

-- each member as the key of a group of which nothing is kept
abbrev pub as_keys : {K : Type 0} → List K → List (K × ⊤)
as_keys ks = map (λ k. (k, tt)) ks

module _ {K : Type 0} (same : K → K → Bool) where
  -- An item is put in where it isn't there. java.util.stream.Collectors, toSet.
  abbrev pub set_add : List (K × ⊤) → K → List (K × ⊤)
  set_add ks x = group_add same (λ k. k) tt (λ _ _. tt) ks x

  -- the items of the right side are put in
  abbrev pub set_merge : List (K × ⊤) → List (K × ⊤) → List (K × ⊤)
  set_merge ks js = group_merge same (λ _ _. tt) ks js

  nothing_laws : (is_value : K → Type 0) → CollectorLaws {X = K} {A = ⊤} is_value tt (λ _ _. tt) (λ _ _. tt)
  nothing_laws is_value = record { identity = λ l v. refl; associativity = λ l r x v w u. refl }

  module _ (decides : DecidesEquality same) where
    pub set_laws : (is_value : K → Type 0) → CollectorLaws is_value [] set_add set_merge
    set_laws is_value = grouping_laws same decides (λ k. k) is_value tt (λ _ _. tt) (λ _ _. tt) (nothing_laws is_value)

    keys-itself : (ks : List K) → map (λ k. k) ks ≡ ks
    keys-itself [] = refl
    keys-itself (k ∷ ks) = ap (λ ks. k ∷ ks) (keys-itself ks)

    keys-back : (ks js : List K) → as_keys ks ≡ as_keys js → ks ≡ js
    keys-back ks js h = sym (first-keys ks) ∙ ap (map (λ e. e.0)) h ∙ first-keys js
      where
        first-keys : (ks : List K) → map (λ e. e.0) (as_keys ks) ≡ ks
        first-keys [] = refl
        first-keys (k ∷ ks) = ap (λ ks. k ∷ ks) (first-keys ks)

    nothing-kept : (kept : K → ⊤) (ks : List K) → pairs kept ks ≡ as_keys ks
    nothing-kept kept [] = refl
    nothing-kept kept (k ∷ ks) = ap (λ es. (k, tt) ∷ es) (nothing-kept kept ks)

    -- what is in the set of a list are its distinct items
    pub set_of : (l ks : List K) → as_keys ks ≡ fold set_add [] l → ks ≡ distinct same l
    set_of l ks made =
        keys-back ks (distinct same l)
        (made ∙ grouped same decides (λ k. k) tt (λ _ _. tt) l ∙ nothing-kept _ (distinct same (map (λ k. k) l)) ∙ ap (λ ks. as_keys (distinct same ks)) (keys-itself l))
