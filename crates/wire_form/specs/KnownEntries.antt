-- Entries that a map of some values has.
use Rattle.std.specs.Prelude.{Bool, List, ◌++◌, map, All}
use Rattle.stages.specs.Distinct.{AllApart}

module _ {J C : Type 0} (is_key : J → Type 0) (is_kept : C → Type 0) where
  -- the key is a value, and what is kept is some list's
  abbrev pub IsKnownEntry : J × C → Type 0
  IsKnownEntry e = is_key e.0 × is_kept e.1

  -- each entry is known, and its key stands neither before nor twice
  abbrev pub AreKnownEntries : (J → J → Bool) → List J → List (J × C) → Type 0
  AreKnownEntries same before es = AllApart same (before ++ map (λ e. e.0) es) × All IsKnownEntry es
