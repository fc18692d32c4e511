-- What the entries of runs say of the lists of their leaves.
use Rattle.std.specs.Prelude.{◌≡◌, ◌<◌, ◌≢◌, ℕ, Bool, List, [], ◌∷◌, ◌++◌, Option, None, length, slice_index_or}
use Rattle.barriers.specs.Needs.{no_item}
use Rattle.leaf_board.specs.Closing.{Outcome, count_of, cut_of}
use Rattle.stealing_pool.specs.Reports.{Reports}
use Rattle.leaf_reading.specs.Fronts.{Folding, IsFront}
use Rattle.stealing_pool.specs.Spans.{joined, full_count}

-- other lists of the same leaves, which differ at leaves with no count alone
pub record ReplacesSkipped {T : Type 0} (count : ℕ → Option ℕ) (lists others : List (List T)) : Type 0 where
  pub leaves : length others ≡ length lists
  pub same : (i : ℕ) → i < length lists → count i ≢ None → slice_index_or others i [] ≡ slice_index_or lists i []

-- other lists at leaves with no count leave the answer the same
abbrev pub IsHarmless : {T A : Type 0} → (List T → A) → (ℕ → Option ℕ) → List (List T) → Type 0
IsHarmless {T} answer count lists = (others : List (List T)) → ReplacesSkipped count lists others → answer (joined others) ≡ answer (joined lists)

-- The entry of a run of leaves with these lists: each leaf has a lawful count, or was skipped and lies right of the cut; the cut is justified, and lies at
-- or left of each leaf whose own count is enough; and what was skipped makes no difference to the answer.
pub record IsEntryOf {T A : Type 0} (needed : Option ℕ) (counted : T → Bool) (answer : List T → A) (lists : List (List T)) (entry : Outcome) : Type 0 where
  pub reports : Reports needed (length lists) (full_count counted lists) entry.leaves (count_of entry) (cut_of entry)
  pub harmless : IsHarmless answer (count_of entry) lists

-- The entries of a stream's runs: its items are cut into lists for the leaves of a run; the last entry is that run's, over these lists, and those before
-- it are the runs' of the barriers.
pub record IsReport {T : Type 0} (IsCut : List (List T) → Type 0) (whole : List T) (OfBarriers : List Outcome → Type 0) (OfRun : List (List T) → Outcome → Type 0) (entries : List Outcome) : Type 0 where
  pub lists : List (List T)
  pub cut : IsCut lists
  pub joins : joined lists ≡ whole
  pub before : List Outcome
  pub last : Outcome
  pub are : entries ≡ before ++ last ∷ []
  pub of_barriers : OfBarriers before
  pub of_run : OfRun lists last

-- The entries of the runs up to a barrier's own: of the stream before it these are the cut, the items and the entries.
abbrev pub IsBarrierReport : {T A : Type 0} → (ℕ → ℕ → List (List T) → Type 0) → List T → (ℕ → ℕ → List Outcome → Type 0) → Option ℕ → (T → Bool) → (List T → A) → ℕ → ℕ → List Outcome → Type 0
IsBarrierReport leaf_lists whole reported needed counted answer workers target =
    IsReport (leaf_lists workers target) whole (reported workers target) (IsEntryOf needed counted answer)

-- What the run of leaves with these lists left: the fold of a front of them that is all or is enough, and an entry that tells of these leaves.
abbrev pub IsRunOver : {T C : Type 0} → Folding T C → C → List (List T) → Outcome → Type 0
IsRunOver f content lists entry =
    IsFront f (joined lists) content × Reports f.needed (length lists) (full_count f.counted lists) entry.leaves (count_of entry) (cut_of entry)

-- A value and the report of the runs that it comes from: the value is given on the lists of the last run's leaves, one after another, and the last entry
-- is of the run over just these lists, all of which are asked for.
abbrev pub IsReportedRun : {T V : Type 0} → (List (List T) → Type 0) → List T → (List Outcome → Type 0) → (List T → V → Type 0) → V → List Outcome → Type 0
IsReportedRun IsCut whole OfBarriers Gives value entries =
    IsReport IsCut whole OfBarriers (λ lists last. Gives (joined lists) value × IsEntryOf None no_item (λ l. l) lists last) entries
