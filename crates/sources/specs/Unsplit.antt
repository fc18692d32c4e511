-- A source that never splits.
use Rattle.std.specs.Prelude.{◌≡◌, ℕ, List, Option, Some, None}
use Rattle.spliterator.specs.Spliterator.{IsSplit}

-- there is no part, and nothing changes
abbrev pub NeverSplits : {S : Type 0} → S → Option S → S → Type 0
NeverSplits s None rest = rest ≡ s
NeverSplits s (Some part) rest = ⊥

pub IsSplit-never : {S C : Type 0} (items : S → List C) (weight estimate told : S → ℕ) (s : S) (part : Option S) (rest : S) → NeverSplits s part rest → IsSplit items weight estimate told s part rest
IsSplit-never items weight estimate told s None rest h = h
IsSplit-never items weight estimate told s (Some part) rest h = absurd h
