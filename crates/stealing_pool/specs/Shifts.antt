-- What a worker does with the leaves that it draws.
use Rattle.std.specs.Prelude.{◌≡◌, ◌<◌, ◌+◌, ◌≢◌, ℕ, false, List, Option, Some, None, Result, Ok, Err, length, slice_index_or, All}
use Rattle.barriers.specs.Needs.{Reaches}
use Rattle.leaf_board.specs.Case.{IsLawful}
use Rattle.leaf_board.specs.Statuses.{Status, Unknown, Given, Published, Skipped, Turns}
use Rattle.stealing_pool.specs.Jobs.{Work, IsCase}
use Rattle.leaf_reading.specs.Fronts.{IsWithin}
use Rattle.stealing_pool.specs.declared.worker.Ran.{Ran}
use Rattle.stealing_pool.specs.declared.worker.Shift.{Shift}

-- the portion of a leaf that was run is lawful
pub record IsRan {A : Type 0} (work : Work A) (r : Ran A) : Type 0 where
  pub place : r.leaf < work.leaves
  pub keeps : work.Keeps r.leaf (r.leaf + 1) r.portion.count r.portion.kept
  pub lawful : IsLawful work.needed (work.full r.leaf) r.portion.count
  pub within : IsWithin work.needed r.portion.count

-- a leaf is published with what is kept of it, or skipped; or memory was refused
abbrev pub Serves : {A E : Type 0} → Work A → (ℕ → Status) → ℕ → Result (Option (Ran A)) E → (ℕ → Status) → (ℕ → Type 0) → Type 0
Serves work before leaf (Ok (Some r)) after Cuts = (r.leaf ≡ leaf) × IsRan work r × Turns before leaf (Published r.portion.count) after × (Reaches work.needed r.portion.count → Cuts leaf)
Serves work before leaf (Ok None) after Cuts = Turns before leaf Skipped after
Serves work before leaf (Err e) after Cuts = Unit {0}

-- each leaf that the seat was given was published, with what is kept of it, or skipped
abbrev pub KeepsShift : {A : Type 0} → (ℕ → Status) → List (Ran A) → Type 0
KeepsShift status ran =
    (i : ℕ) → (status i ≢ Given)
    × ((count : ℕ) → status i ≡ Published count → (k : ℕ) × (k < length ran) × ((d : Ran _) → ((slice_index_or ran k d).leaf ≡ i) × ((slice_index_or ran k d).portion.count ≡ count)))

-- where what is kept of the leaf is enough by itself, the seat cut there or left of it
abbrev pub CutBy : {S A : Type 0} → Work A → (S → ℕ → Type 0) → S → Ran A → Type 0
CutBy work made_cut seat r = Reaches work.needed r.portion.count → made_cut seat r.leaf

-- what a worker hands back of the seat that it was given
pub record IsShift {S A : Type 0} (work : Work A) (Is : S → Type 0) (number : S → ℕ) (status : S → ℕ → Status) (made_cut : S → ℕ → Type 0) (seat : S) (shift : Shift S A) : Type 0 where
  pub of : Is shift.seat
  pub numbered : number shift.seat ≡ number seat
  pub ran : All (IsRan work) shift.ran.items
  pub cuts : All (CutBy work made_cut shift.seat) shift.ran.items
  pub kept : shift.refused ≡ false → KeepsShift (status shift.seat) shift.ran.items

-- what a worker has done so far
pub record IsBegun {S A : Type 0} (work : Work A) (Is : S → Type 0) (status : S → ℕ → Status) (made_cut : S → ℕ → Type 0) (shift : Shift S A) : Type 0 where
  pub of : Is shift.seat
  pub ran : All (IsRan work) shift.ran.items
  pub cuts : All (CutBy work made_cut shift.seat) shift.ran.items
  pub kept : shift.refused ≡ false → KeepsShift (status shift.seat) shift.ran.items

-- what a worker needs of its job, its board and its seat
pub record Accepts {A : Type 0} (Ready : Type 0) (work : Work A) (leaves : ℕ) (full : ℕ → ℕ) (need : Option ℕ) (Sits : Type 0) (status : ℕ → Status) : Type 0 where
  pub ready : Ready
  pub made_for : IsCase work leaves full need
  pub sits : Sits
  pub fresh : (i : ℕ) → status i ≡ Unknown
