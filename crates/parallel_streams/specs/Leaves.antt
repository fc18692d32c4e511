-- Into which lists items are cut for the leaves of a run.
use Rattle.std.specs.Prelude.{◌≡◌, ℕ, ◌+◌, ◌-◌, ◌/◌, ◌^◌, ◌<◌, ◌≤◌, min, List, [], ◌∷◌, length, map, flat_map, take, drop, Option, Some, None}
use Rattle.split_tree.specs.declared.tree.Tree.{Tree}
use Rattle.split_tree.specs.SplitTree.{split_target, IsSplitTree}

-- the leaves are those of the source's split tree, for so many workers and this target
abbrev pub ArePlanned : {S : Type 0} → (S → ℕ) → (S → Option S → S → Type 0) → S → ℕ → ℕ → Tree → List S → Type 0
ArePlanned estimate gives s workers target tree leaves = IsSplitTree estimate gives (split_target (estimate s) workers target) tree 0 0 s leaves

-- A source is cut by its split tree: the lists are the items of the tree's leaves.
pub record IsCutSource {S C : Type 0} (items : S → List C) (estimate : S → ℕ) (gives : S → Option S → S → Type 0) (s : S) (workers target : ℕ) (lists : List (List C)) : Type 0 where
  pub tree : Tree
  pub leaves : List S
  pub planned : ArePlanned estimate gives s workers target tree leaves
  pub are : lists ≡ map items leaves

-- each list through a stage
abbrev pub AreThrough : {A B : Type 0} → (List (List A) → Type 0) → (A → List B) → List (List B) → Type 0
AreThrough {A} IsCut expand lists = (before : List (List A)) × IsCut before × (lists ≡ map (flat_map expand) before)

-- a number splits in half, rounded down, from two on
abbrev pub HalvesNumber : ℕ → Option ℕ → ℕ → Type 0
HalvesNumber n None rest = (n < 2) × (rest ≡ n)
HalvesNumber n (Some part) rest = (2 ≤ n) × (part ≡ n / 2) × (rest ≡ n - n / 2)

-- the sizes of the leaves of so many items, which are split in half: at most 2^62 are counted
abbrev pub AreSizes : ℕ → ℕ → ℕ → List ℕ → Type 0
AreSizes workers target n sizes = (tree : Tree) × ArePlanned (λ m. m) HalvesNumber (min n (2 ^ 62)) workers target tree sizes

-- a list in parts of these sizes, from its front on; the last part is what is left
abbrev pub parts_by : {T : Type 0} → List ℕ → List T → List (List T)
parts_by [] l = []
parts_by (n ∷ []) l = l ∷ []
parts_by (n ∷ m ∷ sizes) l = take n l ∷ parts_by (m ∷ sizes) (drop n l)

-- A list is cut as its number of items is split in half.
pub record IsCutList {T : Type 0} (whole : List T) (workers target : ℕ) (lists : List (List T)) : Type 0 where
  pub sizes : List ℕ
  pub halved : AreSizes workers target (length whole) sizes
  pub are : lists ≡ parts_by sizes whole

-- where leaves of these sizes end, from a place on, in a list of this length: the last one ends with the list
abbrev pub ends_by : ℕ → ℕ → List ℕ → List ℕ
ends_by len from [] = []
ends_by len from (n ∷ []) = len ∷ []
ends_by len from (n ∷ m ∷ sizes) = min len (from + n) ∷ ends_by len (min len (from + n)) (m ∷ sizes)

-- the ends of the leaves of a list of this length
abbrev pub AreLeafEnds : ℕ → ℕ → ℕ → List ℕ → Type 0
AreLeafEnds workers target len ends = (sizes : List ℕ) × AreSizes workers target len sizes × (ends ≡ ends_by len 0 sizes)
