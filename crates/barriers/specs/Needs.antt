-- How much of a list is enough.
use Rattle.std.specs.Prelude.{◌≡◌, ◌<◌, ◌≤◌, ◌-◌, ◌⊎◌, ℕ, Bool, true, false, List, [], ◌++◌, Option, Some, None, count_by, take, length}
use Rattle.barriers.specs.declared.demand.Need.{Need}
use Rattle.barriers.specs.declared.demand.Need.TheVariants.{Never, Reach}

abbrev pub need_of : Need → Option ℕ
need_of Never = None
need_of (Reach r) = Some r

-- a need of nothing, or of a number below the bound
abbrev pub IsBelow : Option ℕ → ℕ → Type 0
IsBelow None bound = Unit {0}
IsBelow (Some r) bound = r < bound

-- where nothing is ever enough, no item counts
abbrev pub CountsNone : {T : Type 0} → Option ℕ → (T → Bool) → Type 0
CountsNone None counted = (x : _) → counted x ≡ false
CountsNone (Some r) counted = Unit {0}

-- this many counting items are enough
abbrev pub Reaches : Option ℕ → ℕ → Type 0
Reaches None n = ⊥
Reaches (Some r) n = r ≤ n

-- how many counting items are needed behind so many
abbrev pub less_needed : Option ℕ → ℕ → Option ℕ
less_needed None n = None
less_needed (Some r) n = Some (r - n)

-- the list has enough counting items
abbrev pub IsEnough : {T : Type 0} → Option ℕ → (T → Bool) → List T → Type 0
IsEnough needed counted xs = Reaches needed (count_by counted xs)

-- a front of the list that is all of it, or is enough
abbrev pub IsOutcome : {T : Type 0} → Option ℕ → (T → Bool) → List T → List T → Type 0
IsOutcome needed counted xs front = (rest : List _) × (xs ≡ front ++ rest) × ((rest ≡ []) ⊎ IsEnough needed counted front)

abbrev pub every_item : {T : Type 0} → T → Bool
every_item x = true

abbrev pub no_item : {T : Type 0} → T → Bool
no_item x = false

-- where a front is enough, nothing that follows it changes the function's value
abbrev pub KeepsEnough : {T A : Type 0} → Option ℕ → (T → Bool) → (List T → A) → Type 0
KeepsEnough {T} needed counted value = (front more : List T) → IsEnough needed counted front → value (front ++ more) ≡ value front

-- what is enough stays enough, whatever stands before it and behind it
abbrev pub StaysEnough : {T : Type 0} → Option ℕ → (T → Bool) → Type 0
StaysEnough {T} needed counted = (before part behind : List T) → IsEnough needed counted part → IsEnough needed counted (before ++ part ++ behind)

-- where one counting item is enough, none but the last counts
abbrev pub CountsLast : {T : Type 0} → Option ℕ → (T → Bool) → List T → Type 0
CountsLast needed counted xs = needed ≡ Some 1 → (n : ℕ) → n < length xs → count_by counted (take n xs) ≡ 0

-- What a run's cut tells of the list that it kept, where one counting item is enough: with no cut none counts; with a cut one does, and it is the last.
pub record IsToldBy {T : Type 0} (needed : Option ℕ) (counted : T → Bool) (xs : List T) (is_cut : Bool) : Type 0 where
  pub none : is_cut ≡ false → needed ≡ Some 1 → count_by counted xs ≡ 0
  pub some : is_cut ≡ true → needed ≡ Some 1 → 1 ≤ count_by counted xs
  pub last : CountsLast needed counted xs
