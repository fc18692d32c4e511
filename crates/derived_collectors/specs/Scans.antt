-- Running totals of a list.
use Rattle.std.specs.Prelude.{◌≡◌, ◌<◌, ◌+◌, ℕ, List, [], ◌∷◌, ◌++◌, length, map, take, slice_get, Option, Some, None}
use Rattle.collectors.specs.Reductions.{reduced}

-- In the place of each item, what the items up to it, and it, come to. java.util.Arrays, parallelPrefix.
pub record IsScan {C : Type 0} (join : C → C → C) (l totals : List C) : Type 0 where
  pub all : length totals ≡ length l
  pub each : (i : ℕ) → i < length l → slice_get totals i ≡ reduced join (take (i + 1) l)

abbrev pub last_from : {C : Type 0} → C → List C → C
last_from a [] = a
last_from a (x ∷ l) = last_from x l

abbrev pub last : {C : Type 0} → List C → Option C
last [] = None
last (x ∷ l) = Some (last_from x l)

-- an item behind what there is
abbrev pub joined_to : {C : Type 0} → (C → C → C) → Option C → C → C
joined_to join None x = x
joined_to join (Some a) x = join a x

-- one item more: its total stands behind the others
abbrev pub scan_add : {C : Type 0} → (C → C → C) → List C → C → List C
scan_add join l x = l ++ joined_to join (last l) x ∷ []

-- the totals of what comes first, and of what follows, to each of which the last of those before is joined
abbrev pub scan_merge : {C : Type 0} → (C → C → C) → List C → List C → List C
scan_merge join l r = l ++ map (joined_to join (last l)) r
