-- What is kept of the lists of leaves.
use Rattle.std.specs.Prelude.{◌≡◌, ◌⊎◌, ℕ, Bool, List, [], ◌++◌, count_by, flat_map, map, take, drop, length, slice_index_or}
use Rattle.barriers.specs.Needs.{Reaches, CountsLast}
use Rattle.leaf_reading.specs.Fronts.{Folding, Folds}
use Rattle.stealing_pool.specs.Jobs.{Work}

-- the stage's list on the items of each leaf
abbrev pub lists_of : {S X T : Type 0} → (S → List X) → (X → List T) → List S → List (List T)
lists_of items expand leaves = map (λ s. flat_map expand (items s)) leaves

-- the lists end to end
abbrev pub joined : {T : Type 0} → List (List T) → List T
joined lists = flat_map (λ l. l) lists

-- the full count of a leaf
abbrev pub full_count : {T : Type 0} → (T → Bool) → List (List T) → ℕ → ℕ
full_count counted lists i = count_by counted (slice_index_or lists i [])

-- The content is the left fold over a front of the lists of some leaves, with so many counting items, which is all of them or is enough. Where one
-- counting item is enough, it is the last.
abbrev pub KeepsSpan : {T C : Type 0} → Folding T C → List (List T) → ℕ → ℕ → ℕ → C → Type 0
KeepsSpan f lists from to count content =
    (front : List _) × (rest : List _) × (joined (drop from (take to lists)) ≡ front ++ rest) × Folds f front content × (count ≡ count_by f.counted front) × CountsLast f.needed f.counted front × ((rest ≡ []) ⊎ Reaches f.needed count)

-- the work of leaves with these lists, whose containers have these contents
abbrev pub work_of : {T C A : Type 0} → Folding T C → (A → C) → List (List T) → Work A
work_of f content lists = record {
  leaves = length lists;
  full = full_count f.counted lists;
  needed = f.needed;
  Keeps = λ from to count kept. KeepsSpan f lists from to count (content kept);
}
