-- A run of leaves, as contracts see it.
use Rattle.std.specs.Prelude.{◌≡◌, ◌<◌, ◌≤◌, ◌+◌, ◌⊎◌, ℕ, Option}
use Rattle.barriers.specs.Needs.{Reaches}
use Rattle.leaf_board.specs.Case.{IsLawful}
use Rattle.leaf_reading.specs.Fronts.{IsWithin}
use Rattle.leaf_reading.specs.declared.leaf_end.LeafEnd.{LeafEnd}
use Rattle.leaf_reading.specs.declared.leaf_end.LeafEnd.TheVariants.{Done, Cut}

-- What there is to do: so many leaves, with so many counting items each, of which so many are needed in all. `Keeps from to count kept` says that
-- `kept` stands for the leaves from one number up to, not including, another: for all of their items, or for a front of them that is enough, with so
-- many counting items.
pub record Work (A : Type 0) : Type 1 where
  pub leaves : ℕ
  pub full : ℕ → ℕ
  pub needed : Option ℕ
  pub Keeps : ℕ → ℕ → ℕ → A → Type 0

-- a leaf that ended left what is kept of it, with a lawful count; one that was cut has a known cut left of it
abbrev pub EndsLeaf : {A : Type 0} → Work A → ℕ → ℕ → LeafEnd A → Type 0
EndsLeaf work cut leaf (Done p) = work.Keeps leaf (leaf + 1) p.count p.kept × IsLawful work.needed (work.full leaf) p.count × IsWithin work.needed p.count
EndsLeaf work cut leaf Cut = cut < leaf

-- what stands for the leaves on the left, which are not enough, and for those that follow, makes what stands for both
abbrev pub Combines : {A : Type 0} → Work A → A → A → A → Type 0
Combines work left right both =
    (from middle to count more : ℕ) → from ≤ middle → middle ≤ to → work.Keeps from middle count left → (Reaches work.needed count → ⊥) → work.Keeps middle to more right → work.Keeps from to (count + more) both

-- it stands for the leaves from the first up to one, and these are all or are enough
abbrev pub StandsForRun : {A : Type 0} → Work A → A → Type 0
StandsForRun work kept = (to : ℕ) × (count : ℕ) × (to ≤ work.leaves) × work.Keeps 0 to count kept × ((to ≡ work.leaves) ⊎ Reaches work.needed count)

-- the board is made for this work
pub record IsCase {A : Type 0} (work : Work A) (leaves : ℕ) (full : ℕ → ℕ) (need : Option ℕ) : Type 0 where
  pub all : leaves ≡ work.leaves
  pub each : (i : ℕ) → i < work.leaves → full i ≡ work.full i
  pub needs : need ≡ work.needed
