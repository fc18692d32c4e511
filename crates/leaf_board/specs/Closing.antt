-- What a closed board's record says of what its seats did.
use Rattle.std.specs.Prelude.{◌≡◌, ℕ, zero, suc, ◌+◌, ◌*◌, ◌<◌, ◌≤◌, List, drop, length, Option, Some, None, slice_get, slice_index, Contains, if◌then◌else◌, nat_lt}
use mathlib.Core.Option.{some}
use lib.ListN.{get_elem?}
use Rattle.atomic_table.specs.Seated.{TableId}
use Rattle.leaf_board.specs.Case.{BoardCase, IsJustified}
use Rattle.leaf_board.specs.Knowledge.{blank, WasGiven, IsDrained, entry}
use Rattle.leaf_board.specs.declared.view.View.{View}
use Rattle.leaf_board.specs.Rule.{IsPublished, IsSkipped}
use Rattle.leaf_board.specs.Seats.{Holder}
use Rattle.leaf_board.specs.Hands.{KnowsCount}

-- A record, as contracts see it: the number of leaves, the cut word and the leaves' words
pub record Outcome : Type 0 where
  pub leaves : ℕ
  pub cut_word : ℕ
  pub counts : List ℕ

abbrev pub outcome : List ℕ → ℕ → ℕ → Outcome
outcome words leaves seats = record { leaves = leaves; cut_word = slice_index words 0; counts = drop (8 * (1 + seats)) words }

abbrev pub leaves_of : Outcome → ℕ
leaves_of r = r.leaves

-- the cut, if there is one
abbrev pub cut_of : Outcome → Option ℕ
cut_of r = if nat_lt r.cut_word r.leaves then Some r.cut_word else None

abbrev pub count_in : ℕ → Option ℕ
count_in zero = None
count_in (suc n) = Some n

-- the leaf's count, if it was published
abbrev pub count_of : Outcome → ℕ → Option ℕ
count_of r leaf = count_in (slice_index r.counts leaf)

-- it is one of the seats
abbrev pub In : List Holder → Holder → Type 0
In seats s = (j : ℕ) × (slice_get seats j ≡ Some s)

-- each is of this board
abbrev pub AreOf : TableId → List Holder → Type 0
AreOf board seats = (s : Holder) → In seats s → s.board ≡ board

-- each number is among them
abbrev pub AreAll : BoardCase → List Holder → Type 0
AreAll c seats = (number : ℕ) → number < c.seats → (s : Holder) × In seats s × (s.number ≡ number)

-- a seat that knows nothing
abbrev pub newcomer : BoardCase → TableId → ℕ → Holder
newcomer c board number = record { board = board; number = number; knows = blank c }

-- just the board's seats, in order, and they know nothing
abbrev pub AreNew : BoardCase → TableId → List Holder → Type 0
AreNew c board seats = (length seats ≡ c.seats) × ((number : ℕ) → number < c.seats → slice_get seats number ≡ Some (newcomer c board number))

-- What the record says, where these are all the seats
pub record IsRecordOf (c : BoardCase) (seats : List Holder) (r : Outcome) : Type 0 where
  pub leaves : r.leaves ≡ c.leaves
  -- no leaf was given to two of the seats
  pub once : (j k leaf : ℕ) (s t : Holder) → slice_get seats j ≡ Some s → slice_get seats k ≡ Some t → WasGiven s.knows leaf → WasGiven t.knows leaf → j ≡ k
  -- where one was told that all leaves were given out, they were
  pub drained : (s : Holder) → In seats s → IsDrained c s.knows → (leaf : ℕ) → leaf < c.leaves → (t : Holder) × In seats t × WasGiven t.knows leaf
  -- a leaf has the count that a seat published, and no other
  pub published : (leaf count : ℕ) → leaf < c.leaves → count_of r leaf ≡ Some count → (s : Holder) × In seats s × IsPublished s.knows leaf count
  pub counted : (s : Holder) (leaf count : ℕ) → In seats s → IsPublished s.knows leaf count → (leaf < c.leaves) × (count_of r leaf ≡ Some count)
  -- the cut was made, is justified, and is the least of those made
  pub cut_made : (cut : ℕ) → cut_of r ≡ Some cut → IsJustified c cut × ((s : Holder) × In seats s × Contains s.knows.cuts cut)
  pub cut_least : (s : Holder) (cut : ℕ) → In seats s → Contains s.knows.cuts cut → (least : ℕ) × (cut_of r ≡ Some least) × (least ≤ cut)
  -- where a seat knows a cut, the record's is there or left of it
  pub cut_known : (s : Holder) → In seats s → s.knows.least < c.leaves → (cut : ℕ) × (cut_of r ≡ Some cut) × (cut ≤ s.knows.least)
  -- a count that a seat knows, as one that it looked up, is the record's
  pub count_known : (s : Holder) (leaf count : ℕ) → In seats s → KnowsCount s leaf count → (leaf < c.leaves) × (count_of r leaf ≡ Some count)
  -- a skipped leaf lies right of the cut, and has no count
  pub skipped : (s : Holder) (leaf : ℕ) → In seats s → IsSkipped s.knows leaf → (cut : ℕ) × (cut_of r ≡ Some cut) × (cut < leaf) × (count_of r leaf ≡ None)

-- the view shows the seats, the last one first
abbrev pub Shows : View → List Holder → Type 0
Shows v seats = (j : ℕ) (s : Holder) → slice_get seats j ≡ Some s → (i : ℕ) × (i + j + 1 ≡ length seats) × (get_elem? v.entries i ≡ some (entry s.number s.knows))
