-- What containers of leaves make together: for the jobs whose work is `work_of` lists.
use Rattle.std.specs.Prelude.{◌≡◌, ◌<◌, ◌≤◌, ◌+◌, ℕ, Bool, zero, suc, List, [], ◌∷◌, ◌++◌, Option, Some, None, Result, Ok, Err, OnOk, IfOk, count_by, flat_map, take, drop, length, cond, slice_get, refl}
use Rattle.std.proofs.Common.{◌∙◌, ap, sym, subst, arith, append-nil, append_assoc, inl, inr, get_or}
use Rattle.std.proofs.lemmas.List.{take_all, take-take, take-append-drop, drop-take, drop_more, get_or-map}
use Rattle.std.proofs.lemmas.List.Concat.{flat_map-append, flat_map-cons}
use Rattle.std.proofs.lemmas.Option.{get_or_from_slice_get}
use Rattle.std.proofs.lemmas.List.Sums.{sum_by-append}
use Rattle.std.proofs.Math.Seq.{take-suc}
use Rattle.barriers.specs.Needs.{Reaches, IsOutcome, CountsLast}
use Rattle.barriers.specs.NeedLaws.{CountsLast-append}
use Rattle.leaf_board.specs.Case.{sum_below}
use Rattle.leaf_reading.specs.declared.leaf_end.LeafEnd.{LeafEnd}
use Rattle.leaf_reading.specs.declared.leaf_end.LeafEnd.TheVariants.{Done, Cut}
use Rattle.stealing_pool.specs.Jobs.{EndsLeaf, Combines, StandsForRun}
use Rattle.leaf_reading.specs.Fronts.{Folding, Folds, IsFront, EndsList}
use Rattle.stealing_pool.specs.Spans.{joined, lists_of, full_count, work_of}

pub reaches-more : (need : Option ℕ) (a b : ℕ) → a ≤ b → Reaches need a → Reaches need b
reaches-more None a b le reached = reached
reaches-more (Some r) a b le reached = omega arith

-- the members from one place up to another are those up to a place between, and those that follow
span-split : {X : Type 0} (from middle to : ℕ) (xs : List X) → from ≤ middle → middle ≤ to → drop from (take to xs) ≡ drop from (take middle xs) ++ drop middle (take to xs)
span-split zero middle to xs before after = sym (ap (λ l. l ++ drop middle (take to xs)) (sym (take-take middle to xs after)) ∙ take-append-drop middle (take to xs))
span-split (suc from) zero to xs before after = absurd (omega arith)
span-split (suc from) (suc middle) zero xs before after = absurd (omega arith)
span-split (suc from) (suc middle) (suc to) [] before after = refl
span-split (suc from) (suc middle) (suc to) (x ∷ xs) before after = span-split from middle to xs (omega arith) (omega arith)

pub joined-append : {T : Type 0} (xs ys : List (List T)) → joined (xs ++ ys) ≡ joined xs ++ joined ys
joined-append xs ys = flat_map-append (λ l. l) xs ys

-- the lists of the leaves end to end are the stage's list on all their items
pub joined-lists_of : {S X T : Type 0} (items : S → List X) (expand : X → List T) (leaves : List S) → joined (lists_of items expand leaves) ≡ flat_map expand (flat_map items leaves)
joined-lists_of items expand [] = refl
joined-lists_of items expand (s ∷ leaves) =
    let rest = joined-lists_of items expand leaves in
    let one : joined (lists_of items expand (s ∷ leaves)) ≡ flat_map expand (items s) ++ joined (lists_of items expand leaves) = flat_map-cons (λ l. l) (flat_map expand (items s)) (lists_of items expand leaves) in
    let all : flat_map expand (flat_map items (s ∷ leaves)) ≡ flat_map expand (items s) ++ flat_map expand (flat_map items leaves) = ap (flat_map expand) (flat_map-cons items s leaves) ∙ flat_map-append expand (items s) (flat_map items leaves) in
    one ∙ ap (λ l. flat_map expand (items s) ++ l) rest ∙ sym all

-- the list of a leaf
pub list-at : {S X T : Type 0} (items : S → List X) (expand : X → List T) (leaves : List S) (leaf : ℕ) (s : S) → leaf < length leaves → slice_get leaves leaf ≡ Some s → get_or (lists_of items expand leaves) leaf [] ≡ flat_map expand (items s)
list-at items expand leaves leaf s within is = get_or-map (λ l. flat_map expand (items l)) leaves leaf s [] within ∙ ap (λ l. flat_map expand (items l)) (get_or_from_slice_get leaves leaf s s is)

-- the full counts of the first leaves add up to the count of their lists
pub sum-counts : {T : Type 0} (counted : T → Bool) (lists : List (List T)) (n : ℕ) → n ≤ length lists → sum_below (full_count counted lists) n ≡ count_by counted (joined (take n lists))
sum-counts counted lists zero within = refl
sum-counts counted lists (suc n) within =
    let rest = sum-counts counted lists n (omega arith) in
    let here = get_or lists n [] in
    let step : joined (take (suc n) lists) ≡ joined (take n lists) ++ here = ap joined (take-suc lists n [] (omega arith)) ∙ joined-append (take n lists) (here ∷ []) ∙ ap (λ l. joined (take n lists) ++ l) (append-nil here) in
    let count = sum_by-append (λ x. cond (counted x) 1 0) (joined (take n lists)) here in
    ap (λ m. m + count_by counted here) rest ∙ sym count ∙ ap (count_by counted) (sym step)

module _ {T C A : Type 0} (f : Folding T C) (content : A → C) (lists : List (List T)) where
  -- what is kept of a leaf's list stands for the leaf
  pub leaf-ends : (leaf cut : ℕ) (whole : List T) → leaf < length lists → get_or lists leaf [] ≡ whole → (end : LeafEnd A) → EndsList f content whole cut leaf end → EndsLeaf (work_of f content lists) cut leaf end
  leaf-ends leaf cut whole within is Cut told = told
  leaf-ends leaf cut whole within is (Done p) (front, rest, split, folds, counts, small, short, end) =
      let count : List T → ℕ = λ xs. count_by f.counted xs in
      let one : drop leaf (take (leaf + 1) lists) ≡ get_or lists leaf [] ∷ [] = drop-take leaf 1 lists ∙ ap (take 1) (drop_more lists leaf [] within) in
      let list : joined (drop leaf (take (leaf + 1) lists)) ≡ front ++ rest = ap joined one ∙ append-nil (get_or lists leaf []) ∙ is ∙ split in
      let full : full_count f.counted lists leaf ≡ count front + count rest = ap count (is ∙ split) ∙ sum_by-append (λ y. cond (f.counted y) 1 0) front rest in (
        (front, rest, list, folds, counts, short, end),
        (
          omega arith,
          elim end [
            | inl none ↦ inl (let z : count rest ≡ 0 = ap count none in omega arith)
            | inr enough ↦ inr enough
          ],
        ),
        small,
      )

  -- two containers side by side
  pub spans-combine : (left right both : A) → ((l m : List T) → Folds f l (content left) → Folds f m (content right) → Folds f (l ++ m) (content both))
      → Combines (work_of f content lists) left right both
  spans-combine left right both combines from middle to count more before after (front, rest, split, folds, counts, short, inr reached) under of_right = absurd (under reached)
  spans-combine left right both combines from middle to count more before after (front, rest, split, folds, counts, short, inl none) under (front', rest', split', folds', counts', short', end) =
      let left_list : joined (drop from (take middle lists)) ≡ front = split ∙ ap (λ l. front ++ l) none ∙ append-nil front in
      let list : joined (drop from (take to lists)) ≡ (front ++ front') ++ rest' =
      ap joined (span-split from middle to lists before after) ∙ joined-append (drop from (take middle lists)) (drop middle (take to lists)) ∙ ap (λ l. l ++ joined (drop middle (take to lists))) left_list ∙ ap (λ l. front ++ l) split' ∙ sym (append_assoc front front' rest') in
      let sum = sum_by-append (λ y. cond (f.counted y) 1 0) front front' in (
        front ++ front',
        rest',
        list,
        combines front front' folds folds',
        omega arith,
        CountsLast-append f.needed f.counted front front' (λ reached. let R : ℕ → Type 0 = λ n. Reaches f.needed n in under (subst R (sym counts) reached)) short',
        elim end [ inl all ↦ inl all | inr reached ↦ inr (reaches-more f.needed more (count + more) (omega arith) reached) ],
      )

  -- what stands for the run is the fold over a front of all the lists, which is all of them or enough, and where one counting item is enough, it is the last
  pub run-last : (kept : A) → StandsForRun (work_of f content lists) kept
      → (front : List T) × IsOutcome f.needed f.counted (joined lists) front × Folds f front (content kept) × CountsLast f.needed f.counted front
  run-last kept (to, count, within, (front, rest, split, folds, counts, short, end), last) =
      let after : List T = joined (drop to lists) in
      let whole : joined lists ≡ front ++ (rest ++ after) =
      ap joined (sym (take-append-drop to lists)) ∙ joined-append (take to lists) (drop to lists) ∙ ap (λ l. l ++ after) split ∙ append_assoc front rest after in
      let R : ℕ → Type 0 = λ n. Reaches f.needed n in
      elim last [
        | inr enough ↦ (front, (rest ++ after, whole, inr (subst R counts enough)), folds, short)
        | inl all ↦
            (let list : joined lists ≡ front ++ rest = ap joined (sym (take_all to lists (omega arith))) ∙ split in
            elim end [
              | inl none ↦ (front, (rest, list, inl none), folds, short)
              | inr enough ↦ (front, (rest, list, inr (subst R counts enough)), folds, short)
            ])
      ]

  pub run-front : (kept : A) → StandsForRun (work_of f content lists) kept → IsFront f (joined lists) (content kept)
  run-front kept stands = let run = run-last kept stands in (run.0, run.1, run.2)

  -- the same of calls that may be refused memory
  pub leaf-ends-ok : {E : Type 0} (leaf cut : ℕ) (whole : List T) → leaf < length lists → get_or lists leaf [] ≡ whole → (r : Result (LeafEnd A) E) → IfOk r (EndsList f content whole cut leaf) → IfOk r (EndsLeaf (work_of f content lists) cut leaf)
  leaf-ends-ok leaf cut whole within is (Ok end) ends = leaf-ends leaf cut whole within is end ends
  leaf-ends-ok leaf cut whole within is (Err e) ends = tt

  pub spans-combine-ok : {U E : Type 0} (r : Result U E) (left right both : A) → ((l m : List T) → Folds f l (content left) → Folds f m (content right) → OnOk r (Folds f (l ++ m) (content both)))
      → OnOk r (Combines (work_of f content lists) left right both)
  spans-combine-ok (Ok u) left right both combines = spans-combine left right both combines
  spans-combine-ok (Err e) left right both combines = tt
