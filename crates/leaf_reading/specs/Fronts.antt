-- What is kept of a list of items.
-- java.util.stream, package summary, Mutable reduction; java.util.stream, package summary, Stream operations and pipelines (short-circuiting)
use Rattle.std.specs.Prelude.{◌≡◌, ◌<◌, ◌≤◌, ◌⊎◌, ℕ, Bool, List, [], ◌++◌, Option, Some, None, All, count_by, fold}
use Rattle.barriers.specs.Needs.{Reaches, IsOutcome, CountsLast}
use Rattle.leaf_reading.specs.declared.leaf_end.Portion.{Portion}
use Rattle.leaf_reading.specs.declared.leaf_end.LeafEnd.{LeafEnd}
use Rattle.leaf_reading.specs.declared.leaf_end.LeafEnd.TheVariants.{Done, Cut}

-- how the items of a run are reduced: which count and how many of these are needed, which are values, and the left fold of `add` from `empty`
pub record Folding (T C : Type 0) : Type 1 where
  pub needed : Option ℕ
  pub counted : T → Bool
  pub is_value : T → Type 0
  pub empty : C
  pub add : C → T → C

abbrev pub folding : {T C : Type 0} → Option ℕ → (T → Bool) → (T → Type 0) → C → (C → T → C) → Folding T C
folding needed counted is_value empty add = record { needed = needed; counted = counted; is_value = is_value; empty = empty; add = add }

-- the content is the left fold over these values
abbrev pub Folds : {T C : Type 0} → Folding T C → List T → C → Type 0
Folds f xs content = All f.is_value xs × (content ≡ fold f.add f.empty xs)

-- the content is the left fold over a front of the list that is all of it or is enough
abbrev pub IsFront : {T C : Type 0} → Folding T C → List T → C → Type 0
IsFront f whole content = (front : List _) × IsOutcome f.needed f.counted whole front × Folds f front content

-- a count that doesn't pass the need
abbrev pub IsWithin : Option ℕ → ℕ → Type 0
IsWithin None n = n ≡ 0
IsWithin (Some r) n = n ≤ r

-- of what was offered a front is kept: all of it, or so much that it is enough, and no more than that; where one counting item is enough, it is the last
abbrev pub KeepsFront : {T C A : Type 0} → Folding T C → (A → C) → List T → Portion A → Type 0
KeepsFront f content xs p =
    (front : List _) × (rest : List _) × (xs ≡ front ++ rest) × Folds f front (content p.kept) × (p.count ≡ count_by f.counted front) × IsWithin f.needed p.count × CountsLast f.needed f.counted front × ((rest ≡ []) ⊎ Reaches f.needed p.count)

-- a front is kept by a demand and a collector, of which these are the members
abbrev pub KeepsBy : {D C T F A : Type 0} → (D → Option ℕ) → (D → T → Bool) → (T → Type 0) → (C → F) → (C → F → T → F) → (C → A → F) → D → C → List T → Portion A → Type 0
KeepsBy needed counted is_value empty add content demand collector = KeepsFront (folding (needed demand) (counted demand) is_value (empty collector) (add collector)) (content collector)

-- a leaf that ended has kept a front of its list; one that was cut has a known cut left of it
abbrev pub EndsList : {T C A : Type 0} → Folding T C → (A → C) → List T → ℕ → ℕ → LeafEnd A → Type 0
EndsList f content whole cut leaf (Done p) = KeepsFront f content whole p
EndsList f content whole cut leaf Cut = cut < leaf
