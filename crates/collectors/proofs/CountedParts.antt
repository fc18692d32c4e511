-- The parts of a block, where a container hangs on the number of its items alone.
use Rattle.std.specs.Prelude.{◌≡◌, ◌-◌, ◌≤◌, ℕ, Bool, List, [], ◌∷◌, fold, map, filter, take, drop, slice_range, length, count_by, refl}
use Rattle.std.proofs.Common.{sym, ap, ap₂, ◌∙◌, arith}
use Rattle.std.proofs.lemmas.List.{length-take-le, length-drop, length-map}
use Rattle.std.proofs.lemmas.List.Sums.{length-filter, count_by-le-length}
use Rattle.std.proofs.lemmas.List.Filters.{length-filter_both}
use Rattle.collectors.specs.Laws.{CountsAlone}
use Rattle.collectors.specs.NestedLaws.{fails, add_passing, add_parted, fold-passing_from, fold-both_from}

-- as many other items make the same container
alike : {X A : Type 0} (add : A → X → A) → CountsAlone add → (a : A) (l r : List X) → length l ≡ length r → fold add a l ≡ fold add a r
alike add counts a [] [] h = refl
alike add counts a [] (y ∷ r) h = absurd (omega (arith, h))
alike add counts a (x ∷ l) [] h = absurd (omega (arith, h))
alike add counts a (x ∷ l) (y ∷ r) h = alike add counts (add a x) l r (omega (arith, h)) ∙ ap (λ b. fold add b r) (counts a x y)

module _ {T X A : Type 0} (content : T → X) (test : X → Bool) (empty : A) (add : A → X → A) where
  parted : (a b : A) (l : List X) → fold (add_parted test empty add) (a, b) l ≡ (fold add a (filter (fails test) l), fold add b (filter test l))
  parted a b l =
      fold-both_from empty (add_passing (fails test) empty add) empty (add_passing test empty add) a b l
      ∙ ap₂ (λ x y. (x, y)) (fold-passing_from (fails test) empty add a l) (fold-passing_from test empty add b l)

  pub counted : CountsAlone add → (items : List T) (meeting : ℕ) → meeting ≡ count_by test (map content items) → (a b a' b' : A)
      → a' ≡ fold add a (map content (slice_range items meeting (length items))) → b' ≡ fold add b (map content (take meeting items))
      → (a', b') ≡ fold (add_parted test empty add) (a, b) (map content items)
  counted counts items meeting met a b a' b' failing meeting_ones =
      let l = map content items in
      let rest = slice_range items meeting (length items) in
      let count = length-filter test l in
      let most : meeting ≤ length items = omega (arith, met, count_by-le-length test l, length-map items content) in
      let both = length-filter_both test (fails test) (λ x. refl) l in
      let first : length (map content (take meeting items)) ≡ length (filter test l) =
      omega (arith, length-map (take meeting items) content, length-take-le meeting items most, count, met) in
      let left : length rest ≡ length items - meeting =
      length-take-le (length items - meeting) (drop meeting items) (omega (arith, length-drop meeting items)) in
      let others : length (map content rest) ≡ length (filter (fails test) l) =
      omega (arith, length-map rest content, left, length-map items content, both, count, met, most) in
      ap₂ (λ x y. (x, y)) (failing ∙ alike add counts a (map content rest) (filter (fails test) l) others)
      (meeting_ones ∙ alike add counts b (map content (take meeting items)) (filter test l) first)
      ∙ sym (parted a b l)
