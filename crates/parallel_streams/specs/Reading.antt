-- How much is read of a stream's source.
use Rattle.std.specs.Prelude.{◌≡◌, ◌≤◌, ◌+◌, ◌*◌, ◌^◌, ℕ, Bool, true, false, List, [], ◌∷◌, ◌++◌, Option, Some, None, IsTrue, count_by, length, map}
use Rattle.barriers.specs.Needs.{less_needed}
use Rattle.parallel_streams.specs.declared.kept.Listed.{Listed}
use Rattle.spliterator.specs.Characteristics.{tells_sized, tells_subsized}

-- the most items of a first segment
abbrev pub first_segment : ℕ
first_segment = 2 ^ 12

-- at most three times so many items, and one first segment
abbrev pub most_read : ℕ → ℕ
most_read n = 3 * n + first_segment

-- the first n items of the source decide, and so does each longer front
abbrev pub DecidesFrom : (ℕ → Type 0) → ℕ → Type 0
DecidesFrom decided n = (m : ℕ) → n ≤ m → decided m

-- however few items decide, not many more are read
abbrev pub ReadsLittle : (ℕ → Type 0) → ℕ → Type 0
ReadsLittle decided read = (n : ℕ) → DecidesFrom decided n → read ≤ most_read n

-- a part that these splits lead to, each to the part (`true`) or to the rest
abbrev pub IsPartBy : {S : Type 0} → (S → Option S → S → Type 0) → List Bool → S → S → Type 0
IsPartBy gives [] s t = s ≡ t
IsPartBy {S} gives (true ∷ path) s t = (part rest : S) × gives s (Some part) rest × IsPartBy gives path part t
IsPartBy {S} gives (false ∷ path) s t = (part rest : S) × gives s (Some part) rest × IsPartBy gives path rest t

-- The source tells exact sizes, also of its parts, and it and each of them splits where it has more items than a first segment.
pub record SplitsFinely {S : Type 0} (estimate told : S → ℕ) (gives : S → Option S → S → Type 0) (s : S) : Type 0 where
  pub sized : IsTrue (tells_sized (told s))
  pub subsized : IsTrue (tells_subsized (told s))
  pub splits : (path : List Bool) (t rest : S) → IsPartBy gives path s t → gives t None rest → estimate t ≤ first_segment

abbrev pub Each : {X : Type 0} → (X → Type 0) → List X → Type 0
Each P [] = Unit {0}
Each P (x ∷ xs) = P x × Each P xs

-- so many items of the source were read, and these are not; where it splits finely, the number is told, and its parts split so
abbrev pub HasRead : {S C : Type 0} → (S → Type 0) → S → List C → List C → List S → Option ℕ → ℕ → Type 0
HasRead {S} {C} fine source items unread rest told n =
    ((done : List C) × (items ≡ done ++ unread) × (length done ≡ n)) × (fine source → (told ≡ Some n) × Each fine rest)

-- of them the present segment's are behind the first ones
abbrev pub HasReadFrom : {S C : Type 0} → (S → Type 0) → S → List C → List C → List C → List S → Option ℕ → ℕ → ℕ → Type 0
HasReadFrom {S} {C} fine source items segment unread rest told from to =
    ((done : List C) × (items ≡ done ++ (segment ++ unread)) × (length done ≡ from) × (to ≡ from + length segment)) × (fine source → (told ≡ Some to) × Each fine rest)

-- A barrier's state stands behind these items: it needs fewer by those that count, and goes on as its value does.
abbrev pub StandsBehind : {C : Type 0} → Option ℕ → (C → Bool) → (List C → List C) → Option ℕ → (List C → List C) → List C → Type 0
StandsBehind needed counted value needed_behind value_behind items =
    (needed_behind ≡ less_needed needed (count_by counted items)) × ((more : List _) → value (items ++ more) ≡ value items ++ value_behind more)

-- While a barrier has not run over the present segment, its state stands behind what came of the segments before; then behind what comes of this one too, and its
-- list is what that gave more. One that lets all pass needs no number.
abbrev pub ReadsBarred : {T C : Type 0} → Type 0 → Type 0 → (List C → Type 0) → (List C → List C) → List C → List C → (T → C) → Option ℕ → Bool → Option (Listed T) → Type 0
ReadsBarred reads read stands value before now content needed_behind passes None = reads × stands before × (passes ≡ true → needed_behind ≡ None)
ReadsBarred reads read stands value before now content needed_behind passes (Some listed) = read × stands now × (value now ≡ value before ++ map content listed.items.items)
