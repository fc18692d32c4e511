-- What a seat knows, as plain data, and what each step adds.
use Rattle.std.specs.Prelude.{◌≡◌, ◌≢◌, ℕ, ◌+◌, ◌-◌, ◌<◌, List, [], ◌∷◌, replicate, min, slice_index, slice_index_or, slice_set, if◌then◌else◌, nat_lt}
use Rattle.barriers.specs.Needs.{Reaches}
use Rattle.leaf_board.specs.Case.{BoardCase, sum_to}
use Rattle.leaf_board.specs.Statuses.{Status, Unknown, Given, Published, Skipped}

pub record Knowledge : Type 0 where
  -- of each leaf
  pub leaves : List Status
  -- of each leaf 1 + its count where the seat knows it, else 0
  pub counts : List ℕ
  -- its own cuts, the newest first
  pub cuts : List ℕ
  -- the least cut that it knows, or the number of leaves where it knows none
  pub least : ℕ
  -- how many shares it found empty, from its own on round the ring
  pub passed : ℕ
  -- how many of each step it made
  pub draws : ℕ
  pub publishes : ℕ
  pub looks : ℕ
  pub reads : ℕ

abbrev pub knowledge : List Status → List ℕ → List ℕ → ℕ → ℕ → ℕ → ℕ → ℕ → ℕ → Knowledge
knowledge leaves counts cuts least passed draws publishes looks reads =
    record { leaves = leaves; counts = counts; cuts = cuts; least = least; passed = passed; draws = draws; publishes = publishes; looks = looks; reads = reads }

abbrev pub blank : BoardCase → Knowledge
blank c = knowledge (replicate c.leaves Unknown) (replicate c.leaves 0) [] c.leaves 0 0 0 0 0

abbrev pub status_of : Knowledge → ℕ → Status
status_of k leaf = slice_index_or k.leaves leaf Unknown

abbrev pub WasGiven : Knowledge → ℕ → Type 0
WasGiven k leaf = status_of k leaf ≢ Unknown

abbrev pub IsHeld : Knowledge → ℕ → Type 0
IsHeld k leaf = status_of k leaf ≡ Given

-- the count of the leaf, as far as the seat knows: 0 where it knows none
abbrev pub known_count : Knowledge → ℕ → ℕ
known_count k leaf = slice_index k.counts leaf - 1

-- the counts that it knows for leaves 0 to cut reach the need
abbrev pub KnowsEnough : BoardCase → Knowledge → ℕ → Type 0
KnowsEnough c k cut = Reaches c.need (sum_to (known_count k) cut)

-- .. and for leaves 0 to an earlier one they don't
abbrev pub FirstEnough : BoardCase → Knowledge → ℕ → Type 0
FirstEnough c k cut = KnowsEnough c k cut × ((p : ℕ) → p < cut → ¬ KnowsEnough c k p)

-- it knows a cut left of this leaf
abbrev pub KnowsCutLeftOf : Knowledge → ℕ → Type 0
KnowsCutLeftOf k leaf = k.least < leaf

abbrev pub IsDrained : BoardCase → Knowledge → Type 0
IsDrained c k = k.passed ≡ c.seats

-- after a draw step that found this leaf
abbrev pub after_leaf : Knowledge → ℕ → Knowledge
after_leaf k leaf = knowledge (slice_set k.leaves leaf Given) k.counts k.cuts k.least k.passed (k.draws + 1) k.publishes k.looks k.reads

-- after a draw step that found the share empty
abbrev pub after_empty : Knowledge → Knowledge
after_empty k = knowledge k.leaves k.counts k.cuts k.least (k.passed + 1) (k.draws + 1) k.publishes k.looks k.reads

abbrev pub after_publish : Knowledge → ℕ → ℕ → Knowledge
after_publish k leaf count = knowledge (slice_set k.leaves leaf (Published count)) (slice_set k.counts leaf (count + 1)) k.cuts k.least k.passed k.draws (k.publishes + 1) k.looks k.reads

-- after a look at the leaf's word
abbrev pub after_look : Knowledge → ℕ → ℕ → Knowledge
after_look k leaf word = knowledge k.leaves (slice_set k.counts leaf word) k.cuts k.least k.passed k.draws k.publishes (k.looks + 1) k.reads

-- after a cut that found this one
abbrev pub after_cut : Knowledge → ℕ → ℕ → Knowledge
after_cut k cut found = knowledge k.leaves k.counts (cut ∷ k.cuts) (min found cut) k.passed k.draws k.publishes k.looks k.reads

abbrev pub after_read : Knowledge → ℕ → Knowledge
after_read k found = knowledge k.leaves k.counts k.cuts found k.passed k.draws k.publishes k.looks (k.reads + 1)

-- after the read of a skip: the leaf is skipped where the cut found lies left of it
abbrev pub after_skip : Knowledge → ℕ → ℕ → Knowledge
after_skip k leaf found =
    knowledge (if nat_lt found leaf then slice_set k.leaves leaf Skipped else k.leaves) k.counts k.cuts found k.passed k.draws k.publishes k.looks (k.reads + 1)

-- a seat's knowledge under its number
pub record Entry : Type 0 where
  pub number : ℕ
  pub knows : Knowledge

abbrev pub entry : ℕ → Knowledge → Entry
entry number k = record { number = number; knows = k }
