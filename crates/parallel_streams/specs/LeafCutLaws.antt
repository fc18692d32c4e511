-- What holds of the lists into which items are cut for leaves.
use Rattle.std.specs.Prelude.{◌≡◌, ℕ, suc, ◌+◌, ◌-◌, ◌/◌, ◌^◌, ◌<◌, ◌≤◌, min, List, [], ◌∷◌, ◌++◌, length, map, take, drop, Option, Some, None, option_map, slice_index_or, refl}
use Rattle.std.proofs.Common.{sym, ap, ap₂, ◌∙◌, arith, subst, inl, inr, append_assoc}
use Rattle.std.proofs.lemmas.List.{map-append, length-map, take_min, drop_min, take_all, drop_all, drop_more, length-take, length-drop}
use Rattle.split_tree.specs.declared.tree.Tree.{Tree, Leaf, Node'}
use Rattle.split_tree.specs.SplitTree.{leaf_numbers, split_target, StaysWhole, IsSplitTree}
use Rattle.split_tree.specs.SplitTreeLaws.{IsSplitTree-few}
use Rattle.sources.specs.Halves.{SplitsInHalf}
use Rattle.parallel_streams.specs.Cuts.{Ascends, cut_at}
use Rattle.parallel_streams.specs.Leaves.{ArePlanned, IsCutSource, HalvesNumber, AreSizes, parts_by, IsCutList, ends_by, AreLeafEnds}

module _ {S : Type 0} (estimate : S → ℕ) (gives : S → Option S → S → Type 0) (halves : (s : S) (part : Option S) (rest : S) → gives s part rest → HalvesNumber (estimate s) (option_map estimate part) (estimate rest)) where
  whole-size : (target depth : ℕ) (s : S) → StaysWhole estimate gives target depth s → StaysWhole (λ n. n) HalvesNumber target depth (estimate s)
  whole-size target depth s (inl few) = inl few
  whole-size target depth s (inr (inl deep)) = inr (inl deep)
  whole-size target depth s (inr (inr none)) = inr (inr (estimate none.0, halves s None none.0 none.1))

  -- where a source splits as its estimate does, so do its leaves
  pub tree-sizes : (target : ℕ) (tree : Tree) (first depth : ℕ) (s : S) (leaves : List S) → IsSplitTree estimate gives target tree first depth s leaves → IsSplitTree (λ n. n) HalvesNumber target tree first depth (estimate s) (map estimate leaves)
  tree-sizes target (Leaf i) first depth s leaves h = (h.0, ap (map estimate) h.1, whole-size target depth s h.2)
  tree-sizes target (Node' p left q right) first depth s leaves h = record {
    part = estimate h.part;
    rest = estimate h.rest;
    of_part = map estimate h.of_part;
    of_rest = map estimate h.of_rest;
    split = record {
      above_target = h.split.above_target;
      within_depth = h.split.within_depth;
      given = halves s (Some h.part) h.rest h.split.given;
    };
    left = tree-sizes target left first (depth + 1) h.part h.of_part h.left;
    right = tree-sizes target right (first + length (leaf_numbers left)) (depth + 1) h.rest h.of_rest h.right;
    joined = ap (map estimate) h.joined ∙ map-append estimate h.of_part h.of_rest;
  }

-- a source of as many items as its estimate, which splits them in half, splits as that number does
pub halves-size : {S C : Type 0} (items : S → List C) (size : S → ℕ) → ((s : S) → length (items s) ≡ size s) → (s : S) (part : Option S) (rest : S) → SplitsInHalf items s part rest → HalvesNumber (size s) (option_map size part) (size rest)
halves-size items size counts s None rest h = (omega (arith, h.0, counts s), ap size h.1)
halves-size items size counts s (Some part) rest h =
    let n = length (items s) in
    let of_part : length (items part) ≡ min (n / 2) n = ap length h.1 ∙ length-take (n / 2) (items s) in
    let of_rest : length (items rest) ≡ n - n / 2 = ap length h.2 ∙ length-drop (n / 2) (items s) in
    (omega (arith, h.0, counts s), omega (arith, of_part, counts s, counts part), omega (arith, of_rest, counts s, counts rest))

-- the sizes of a plan's leaves, where its source splits in half
pub AreSizes-plan : {S C : Type 0} (items : S → List C) (size : S → ℕ) → ((s : S) → length (items s) ≡ size s) → (workers target n : ℕ) (s : S) (tree : Tree) (leaves : List S) → size s ≡ min n (2 ^ 62)
    → ArePlanned size (SplitsInHalf items) s workers target tree leaves → AreSizes workers target n (map size leaves)
AreSizes-plan items size counts workers target n s tree leaves is planned =
    let Q : ℕ → Type 0 = λ m. ArePlanned (λ k. k) HalvesNumber m workers target tree (map size leaves) in
    (tree, subst Q is (tree-sizes size (SplitsInHalf items) (halves-size items size counts) (split_target (size s) workers target) tree 0 0 s leaves planned))

-- the lists of a plan's leaves
pub cut-leaves : {S C : Type 0} (items : S → List C) (estimate : S → ℕ) (gives : S → Option S → S → Type 0) (s : S) (workers target : ℕ) (tree : Tree) (leaves : List S)
    → ArePlanned estimate gives s workers target tree leaves → IsCutSource items estimate gives s workers target (map items leaves)
cut-leaves items estimate gives s workers target tree leaves planned = record { tree = tree; leaves = leaves; planned = planned; are = refl }

-- a list has a leaf
pub some-size : (workers target n : ℕ) (sizes : List ℕ) → AreSizes workers target n sizes → 1 ≤ length sizes
some-size workers target n sizes h = (IsSplitTree-few (λ m. m) HalvesNumber _ h.0 0 0 (min n (2 ^ 62)) sizes (omega arith) h.1).0

-- one leaf's end, where others follow
pub ends_by-more : (len from n : ℕ) (sizes : List ℕ) → 1 ≤ length sizes → ends_by len from (n ∷ sizes) ≡ min len (from + n) ∷ ends_by len (min len (from + n)) sizes
ends_by-more len from n [] some = absurd (omega (arith, some))
ends_by-more len from n (m ∷ sizes) some = refl

pub length-ends_by : (len from : ℕ) (sizes : List ℕ) → length (ends_by len from sizes) ≡ length sizes
length-ends_by len from [] = refl
length-ends_by len from (n ∷ []) = refl
length-ends_by len from (n ∷ m ∷ sizes) = ap suc (length-ends_by len (min len (from + n)) (m ∷ sizes))

pub Ascends-ends_by : (len from : ℕ) (sizes : List ℕ) → from ≤ len → 1 ≤ length sizes → Ascends from len (ends_by len from sizes)
Ascends-ends_by len from [] within some = absurd (omega (arith, some))
Ascends-ends_by len from (n ∷ []) within some = (within, refl)
Ascends-ends_by len from (n ∷ m ∷ sizes) within some = (omega arith, Ascends-ends_by len (min len (from + n)) (m ∷ sizes) (omega arith) (omega arith))

-- the ends so far and one more
pub ends-push : (len end next leaf : ℕ) (ends sizes : List ℕ) → ends ++ ends_by len end (drop leaf sizes) ≡ ends_by len 0 sizes → leaf + 1 < length sizes → next ≡ min len (end + slice_index_or sizes leaf 0)
    → (ends ++ next ∷ []) ++ ends_by len next (drop (leaf + 1) sizes) ≡ ends_by len 0 sizes
ends-push len end next leaf ends sizes so_far more is =
    let size = slice_index_or sizes leaf 0 in
    let rest = drop (leaf + 1) sizes in
    let others : 1 ≤ length rest = let left = length-drop (leaf + 1) sizes in omega arith in
    let Q : ℕ → Type 0 = λ e. (ends ++ e ∷ []) ++ ends_by len e rest ≡ ends_by len 0 sizes in
    let here : ends_by len end (drop leaf sizes) ≡ min len (end + size) ∷ ends_by len (min len (end + size)) rest = ap (ends_by len end) (drop_more sizes leaf 0 (omega arith)) ∙ ends_by-more len end size rest others in
    subst Q (sym is) (append_assoc ends (min len (end + size) ∷ []) (ends_by len (min len (end + size)) rest) ∙ ap (λ es. ends ++ es) (sym here) ∙ so_far)

-- and the last
pub ends-last : (len end leaf : ℕ) (ends sizes : List ℕ) → ends ++ ends_by len end (drop leaf sizes) ≡ ends_by len 0 sizes → leaf + 1 ≡ length sizes → ends ++ len ∷ [] ≡ ends_by len 0 sizes
ends-last len end leaf ends sizes so_far last =
    let here : ends_by len end (drop leaf sizes) ≡ len ∷ [] = ap (ends_by len end) (drop_more sizes leaf 0 (omega arith) ∙ ap (λ l. slice_index_or sizes leaf 0 ∷ l) (drop_all (leaf + 1) sizes (omega arith))) in
    ap (λ es. ends ++ es) (sym here) ∙ so_far

-- the parts between these ends are those of the sizes
pub cut_at-ends_by : {T : Type 0} (len from : ℕ) (sizes : List ℕ) (l : List T) → len ≡ from + length l → cut_at from (ends_by len from sizes) l ≡ parts_by sizes l
cut_at-ends_by len from [] l e = refl
cut_at-ends_by len from (n ∷ []) l e = ap (λ p. p ∷ []) (take_all (len - from) l (omega arith))
cut_at-ends_by len from (n ∷ m ∷ sizes) l e =
    let place : min len (from + n) - from ≡ min n (length l) = omega arith in
    let first : take (min len (from + n) - from) l ≡ take n l = ap (λ k. take k l) place ∙ take_min n l in
    let rest : drop (min len (from + n) - from) l ≡ drop n l = ap (λ k. drop k l) place ∙ drop_min n l in
    let left = length-drop n l in
    let later = cut_at-ends_by len (min len (from + n)) (m ∷ sizes) (drop n l) (omega arith) in
    ap₂ (λ p ps. p ∷ ps) first (ap (cut_at (min len (from + n)) (ends_by len (min len (from + n)) (m ∷ sizes))) rest ∙ later)

-- a list's content between its ends is cut as a list of so many items is
pub IsCutList-ends : {T C : Type 0} (content : T → C) (workers target : ℕ) (items : List T) (value : List C) (ends : List ℕ) → map content items ≡ value → AreLeafEnds workers target (length items) ends
    → IsCutList value workers target (cut_at 0 ends (map content items))
IsCutList-ends content workers target items value ends is (sizes, halved, are) =
    let count : length items ≡ length (map content items) = sym (length-map items content) in
    let Q : ℕ → Type 0 = λ n. AreSizes workers target n sizes in
    let R : List _ → Type 0 = λ l. IsCutList l workers target (cut_at 0 ends (map content items)) in
    subst R is (record {
      sizes = sizes;
      halved = subst Q count halved;
      are = ap (λ es. cut_at 0 es (map content items)) are ∙ cut_at-ends_by (length items) 0 sizes (map content items) (omega (arith, count));
    })
