-- What contracts see of a board, a seat and a pass, and what the calls say.
use Rattle.std.specs.Prelude.{◌≡◌, ◌≢◌, ℕ, ◌+◌, ◌^◌, ◌<◌, ◌≤◌, ◌⊎◌, [], ◌∷◌, length, slice_index, slice_index_or, slice_set, Option, Some, None}
use Rattle.atomic_table.specs.Seated.{TableId}
use Rattle.leaf_board.specs.Case.{BoardCase, IsJustified}
use Rattle.leaf_board.specs.Statuses.{Unknown, Given}
use Rattle.leaf_board.specs.Knowledge.{Knowledge, knowledge, Entry, entry, status_of, IsHeld, IsDrained, KnowsEnough, FirstEnough}
use Rattle.leaf_board.specs.Rule.{word_count}
use Rattle.leaf_board.specs.Plays.{Sat, sat}
use Rattle.leaf_board.specs.declared.view.View.{View}
use Rattle.leaf_board.specs.declared.handout.Draw.{Draw}
use Rattle.leaf_board.specs.declared.handout.Draw.TheVariants.{Leaf, Drained}
use Rattle.barriers.specs.declared.demand.Need.{Need}
use Rattle.barriers.specs.Needs.{need_of, IsBelow}

-- A seat, as contracts see it: its board, its number and what it knows
pub record Holder : Type 0 where
  pub board : TableId
  pub number : ℕ
  pub knows : Knowledge

abbrev pub nobody : Entry
nobody = entry 0 (knowledge [] [] [] 0 0 0 0 0 0)

-- the knowledge of a view with one number
abbrev pub knowledge_in : View → Knowledge
knowledge_in v = (slice_index_or v.entries 0 nobody).knows

-- a seat in use: its view is what it knows under its number, and it stands at the share after those that it found empty
abbrev pub IsInUse : BoardCase → Sat → ℕ → ℕ → Type 0
IsInUse c me number passed = (me ≡ sat number (knowledge_in me.0)) × (number < c.seats) × (passed ≡ (knowledge_in me.0).passed) × (passed ≤ c.seats) × (length (knowledge_in me.0).leaves ≡ c.leaves) × ((knowledge_in me.0).draws ≤ c.leaves + c.seats) × (length (knowledge_in me.0).counts ≡ c.leaves)

-- the table is that of the case, and the case is within the limits
abbrev pub IsFor : BoardCase → TableId → ℕ → ℕ → Need → Type 0
IsFor c table leaves seats need =
    (table.words ≡ word_count c) × (leaves ≡ c.leaves) × (seats ≡ c.seats) × (need_of need ≡ c.need) × (0 < leaves) × (leaves ≤ 65536) × (0 < seats) × (seats ≤ 64) × IsBelow (need_of need) (2 ^ 63) × (table.slots ≡ 0)

-- the same seat of the same board
abbrev pub SameSeat : Holder → Holder → Type 0
SameSeat before after = (after.board ≡ before.board) × (after.number ≡ before.number)

-- what draws leave as it was
pub record OnlyDraws (before after : Knowledge) : Type 0 where
  pub counts : after.counts ≡ before.counts
  pub cuts : after.cuts ≡ before.cuts
  pub least : after.least ≡ before.least
  pub publishes : after.publishes ≡ before.publishes
  pub looks : after.looks ≡ before.looks
  pub reads : after.reads ≡ before.reads

-- the seat gained this leaf, which it wasn't given before
abbrev pub Gained : BoardCase → Knowledge → ℕ → Knowledge → Type 0
Gained c before leaf after = (leaf < c.leaves) × (status_of before leaf ≡ Unknown) × (after.leaves ≡ slice_set before.leaves leaf Given) × IsHeld after leaf

-- the seat found all shares empty, and gained nothing
abbrev pub GainedNone : BoardCase → Knowledge → Knowledge → Type 0
GainedNone c before after = IsDrained c after × (after.leaves ≡ before.leaves)

-- what a draw answered
abbrev pub Answered : BoardCase → Knowledge → Draw ℕ → Knowledge → Type 0
Answered c before (Leaf pass) after = Gained c before pass after
Answered c before Drained after = GainedNone c before after

-- a justified leaf lies left of this one
abbrev pub HasCutLeftOf : BoardCase → ℕ → Type 0
HasCutLeftOf c leaf = (cut : ℕ) × (cut < leaf) × IsJustified c cut

-- what looks and a cut leave as it was. A count that was known stays
pub record OnlyLooks (before after : Knowledge) : Type 0 where
  pub leaves : after.leaves ≡ before.leaves
  pub passed : after.passed ≡ before.passed
  pub draws : after.draws ≡ before.draws
  pub publishes : after.publishes ≡ before.publishes
  pub reads : after.reads ≡ before.reads
  pub known : (leaf : ℕ) → slice_index before.counts leaf ≢ 0 → slice_index after.counts leaf ≡ slice_index before.counts leaf

-- A settle up to this leaf cut at `cut`
pub record CutAt (c : BoardCase) (before : Knowledge) (leaf : ℕ) (after : Knowledge) (cut : ℕ) : Type 0 where
  pub within : cut ≤ leaf
  pub first : FirstEnough c after cut
  pub justified : IsJustified c cut
  pub cuts : after.cuts ≡ cut ∷ before.cuts
  pub least : after.least ≤ cut
  pub looks : after.looks ≡ before.looks + (cut + 1)

-- .. or found no place to cut
pub record NoCut (c : BoardCase) (before : Knowledge) (leaf : ℕ) (after : Knowledge) : Type 0 where
  pub none : (p : ℕ) → p ≤ leaf → ¬ KnowsEnough c after p
  pub cuts : after.cuts ≡ before.cuts
  pub least : after.least ≡ before.least
  pub looks : after.looks ≡ before.looks + (leaf + 1)

abbrev pub Settles : Option ℕ → BoardCase → Knowledge → ℕ → Knowledge → Type 0
Settles None c before leaf after = after ≡ before
Settles (Some r) c before leaf after = ((cut : ℕ) × CutAt c before leaf after cut) ⊎ NoCut c before leaf after
