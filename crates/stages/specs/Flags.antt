-- What the flags of a stream say, and how operations change them.
use Rattle.std.specs.Prelude.{◌≡◌, ◌≢◌, ◌<◌, ◌^◌, ℕ, Bool, true, false, IsTrue, if◌then◌else◌, List, length, Option, Some, None, IfSome}
use Rattle.std.specs.List.{AllPairs}
use Rattle.std.specs.declared.cmp.Ordering.{Ordering}
use Rattle.std.specs.Ordering.{is_le}
use Rattle.spliterator.specs.Characteristics.{tells}
use Rattle.spliterator.specs.declared.characteristics.TheConstants.{DISTINCT, SORTED, SIZED}
use Rattle.stages.specs.declared.flags.StreamFlags.{StreamFlags}
use Rattle.stages.specs.declared.flags.Operation.{Operation}
use Rattle.stages.specs.declared.flags.Operation.TheVariants.{Map, Filter, FlatMap, Distinct, Limit, Skip, TakeWhile, DropWhile}

abbrev pub is_distinct : StreamFlags → Bool
is_distinct flags = flags.distinct

abbrev pub is_sorted : StreamFlags → Bool
is_sorted flags = flags.sorted

abbrev pub is_sized : StreamFlags → Bool
is_sized flags = flags.sized

abbrev pub is_short_circuit : StreamFlags → Bool
is_short_circuit flags = flags.short_circuit

-- a source tells what its characteristics tell
-- java.util.Spliterator, characteristics
abbrev pub flags_of : ℕ → StreamFlags
flags_of told = record { distinct = tells told DISTINCT; sorted = tells told SORTED; sized = tells told SIZED; short_circuit = false }

-- The table of the flags: what a row doesn't name it keeps. A short circuit is that of
-- java.util.stream, package summary, Stream operations and pipelines.
abbrev pub after : StreamFlags → Operation → StreamFlags
after flags Map = record flags { distinct = false; sorted = false }
after flags Filter = record flags { sized = false }
after flags FlatMap = record flags { distinct = false; sorted = false; sized = false }
after flags Distinct = record flags { distinct = true; sized = false }
after flags Limit = record flags { short_circuit = true }
after flags Skip = flags
after flags TakeWhile = record flags { sized = false; short_circuit = true }
after flags DropWhile = record flags { sized = false }

-- The flags and the known size hold of the items. A size is known exactly where the flags tell so.
pub record IsSound {C : Type 0} (order : C → C → Ordering) (flags : StreamFlags) (size : Option ℕ) (items : List C) : Type 0 where
  pub distinct : IsTrue (is_distinct flags) → AllPairs (λ c d. c ≢ d) items
  pub sorted : IsTrue (is_sorted flags) → AllPairs (λ c d. IsTrue (is_le (order c d))) items
  pub sized : size ≡ (if is_sized flags then Some (length items) else None)
  pub at_most : IfSome size (λ n. n < 2 ^ 63)

-- the operation's row of the table and the size after it are sound on what a function makes of any list
abbrev pub KeepsSound : {C D : Type 0} → (C → C → Ordering) → (D → D → Ordering) → Operation → (Option ℕ → Option ℕ) → (List C → List D) → Type 0
KeepsSound {C} before later operation sizes lists =
    (flags : StreamFlags) (size : Option ℕ) (items : List C) → IsSound before flags size items → IsSound later (after flags operation) (sizes size) (lists items)
