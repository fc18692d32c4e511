-- How far the barriers of a stream have come.
use Rattle.std.specs.Prelude.{◌≡◌, ◌+◌, ℕ, Bool, true, false, List, [], ◌++◌, ◌&&◌, Option, Some, None, Result, Ok, Err, map, length}
use Rattle.collectors.specs.NestedLaws.{push}
use Rattle.stealing_pool.specs.Jobs.{Work}
use Rattle.stealing_pool.specs.Spans.{full_count, work_of}
use Rattle.barriers.specs.Thinned.{IsThinned}
use Rattle.leaf_board.specs.Closing.{Outcome}
use Rattle.leaf_reading.specs.Fronts.{folding}
use Rattle.leaf_reading.specs.declared.leaf_end.LeafEnd.{LeafEnd}
use Rattle.leaf_reading.specs.declared.leaf_end.LeafEnd.TheVariants.{Done, Cut}
use Rattle.parallel_streams.specs.Cuts.{Ascends, cut_at}
use Rattle.parallel_streams.specs.Ends.{ends_of}
use Rattle.parallel_streams.specs.Leaves.{AreLeafEnds}
use Rattle.parallel_streams.specs.declared.kept.BarredProgress.{BarredProgress}
use Rattle.parallel_streams.specs.declared.kept.Listed.{Listed}
use Rattle.parallel_streams.specs.declared.kept.Kept.{Kept}
use Rattle.parallel_streams.specs.declared.kept.Kept.TheVariants.{Before, Own}

-- a barrier's list is cut into parts
abbrev pub IsCut : {T : Type 0} → Listed T → Type 0
IsCut listed = Ascends 0 (length listed.items.items) (ends_of listed.places)

abbrev pub HoldsListed : {T : Type 0} → Option (Listed T) → Type 0
HoldsListed None = Unit {0}
HoldsListed (Some listed) = IsCut listed

-- and where the barrier lets pass what comes, its state leaves everything as it is
abbrev pub HoldsBarred : {P S T C : Type 0} → (P → Type 0) → (S → List C → List C) → BarredProgress P S T → Type 0
HoldsBarred before value_behind g = before g.before × HoldsListed g.listed × (g.passes ≡ true → (l : List _) → value_behind g.state l ≡ l)

-- What a barrier leaves of the present segment and of those behind it: while it has not run, what it makes of all that comes to it; then its list, and what it
-- makes of the segments behind.
abbrev pub left_of : {T C : Type 0} → (T → C) → (List C → List C) → List C → List C → Option (Listed T) → List C
left_of content value_behind left behind None = value_behind left
left_of content value_behind left behind (Some listed) = map content listed.items.items ++ value_behind behind

-- The segment is the whole: while the barrier has not run, it will, and its state is that before any item; then its list is its value, cut for its leaves as so many
-- items are.
abbrev pub IsPlannedList : {T C : Type 0} → (T → C) → Option ℕ → Option ℕ → (List C → List C) → (List C → List C) → List C → ℕ → ℕ → Bool → Option (Listed T) → Type 0
IsPlannedList content needed needed_behind value value_behind whole workers target passes None = (passes ≡ false) × (needed_behind ≡ needed) × ((l : List _) → value_behind l ≡ value l)
IsPlannedList content needed needed_behind value value_behind whole workers target passes (Some listed) =
    AreLeafEnds workers target (length listed.items.items) (ends_of listed.places) × (map content listed.items.items ≡ value whole)

abbrev pub IsPlannedBarred : {P S T C : Type 0} → (P → Type 0) → (T → C) → Option ℕ → (S → Option ℕ) → (List C → List C) → (S → List C → List C) → List C → ℕ → ℕ → BarredProgress P S T → Type 0
IsPlannedBarred before content needed needed_behind value value_behind whole workers target g =
    before g.before × IsPlannedList content needed (needed_behind g.state) value (value_behind g.state) whole workers target g.passes g.listed

-- the entries so far: while the last barrier has not run, those of the barriers before
abbrev pub ToldSoFar : {T : Type 0} → Bool → (List Outcome → Type 0) → (List Outcome → Type 0) → Option (Listed T) → List Outcome → Type 0
ToldSoFar passes before all None entries = (passes ≡ false) × before entries
ToldSoFar passes before all (Some listed) entries = all entries

abbrev pub is_listed : {T : Type 0} → Option (Listed T) → Bool
is_listed None = false
is_listed (Some listed) = true

-- the last run may begin: the barrier's list is there, or the barrier lets pass what the barriers before it left
abbrev pub is_ready : {T : Type 0} → Bool → Bool → Option (Listed T) → Bool
is_ready passes before None = passes && before
is_ready passes before (Some listed) = true

-- the number of barriers that have not run
abbrev pub waiting_of : {T : Type 0} → ℕ → Option (Listed T) → ℕ
waiting_of before None = before + 1
waiting_of before (Some listed) = 0

-- the number of leaves of the next run
abbrev pub next_leaves : {T : Type 0} → ℕ → Option (Listed T) → ℕ
next_leaves before None = before
next_leaves before (Some listed) = length (ends_of listed.places)

-- the lists of the leaves of the last run: those of the run before, or the barrier's list, cut
abbrev pub parts_of : {T C : Type 0} → (T → C) → List (List C) → Option (Listed T) → List (List C)
parts_of content before None = before
parts_of content before (Some listed) = cut_at 0 (ends_of listed.places) (map content listed.items.items)

-- what is kept is a part of a barrier before, or this barrier's own
abbrev pub KeepsBefore : {P T : Type 0} → (P → Type 0) → Kept P T → Type 0
KeepsBefore keeps (Before p) = keeps p
KeepsBefore keeps (Own items) = ⊥

abbrev pub KeepsOwn : {P T : Type 0} → (List T → Type 0) → Kept P T → Type 0
KeepsOwn keeps (Before p) = ⊥
KeepsOwn keeps (Own items) = keeps items

-- the fronts that a barrier needs of the items of these leaves
abbrev pub fronts_of : {C : Type 0} → Option ℕ → (C → Bool) → (C → Type 0) → List (List C) → Work (List C)
fronts_of needed counted is_value lists = work_of (folding needed counted is_value [] push) (λ front. front) lists

-- What there is to do in a barrier's own run: to list the items of these leaves, as far as the barrier needs them. What makes no difference to the barrier may be left out.
abbrev pub own_work : {T C : Type 0} → Option ℕ → (C → Bool) → (C → Type 0) → (T → C) → (List C → List C) → List (List C) → Work (List T)
own_work needed counted is_value content value lists = record {
  leaves = length lists;
  full = full_count counted lists;
  needed = needed;
  Keeps = λ from to count kept. (front : List _) × (fronts_of needed counted is_value lists).Keeps from to count front × IsThinned needed value front (map content kept);
}

-- while a barrier before has not run, the next run is that barrier's; then it is this barrier's own
abbrev pub barred_work : {P T : Type 0} → Bool → Work P → Work (List T) → Work (Kept P T)
barred_work false before own = record { leaves = before.leaves; full = before.full; needed = before.needed; Keeps = λ from to count part. KeepsBefore (before.Keeps from to count) part }
barred_work true before own = record { leaves = own.leaves; full = own.full; needed = own.needed; Keeps = λ from to count part. KeepsOwn (own.Keeps from to count) part }

-- how a leaf ended, with what is kept put in another form
abbrev pub end_with : {A B : Type 0} → (A → B) → LeafEnd A → LeafEnd B
end_with f (Done p) = Done (record { count = p.count; kept = f p.kept })
end_with f Cut = Cut

abbrev pub ended_with : {A B E : Type 0} → (A → B) → Result (LeafEnd A) E → Result (LeafEnd B) E
ended_with f (Ok end) = Ok (end_with f end)
ended_with f (Err refused) = Err refused

-- how a leaf of a barrier's own run ended, with so much of its list left that it makes the same difference
abbrev pub EndsThinned : {P T : Type 0} → (List T → List T → Type 0) → LeafEnd (Kept P T) → LeafEnd (List T) → Type 0
EndsThinned thinned (Done left) (Done p) = (left.count ≡ p.count) × KeepsOwn (thinned p.kept) left.kept
EndsThinned thinned (Done left) Cut = ⊥
EndsThinned thinned Cut (Done p) = ⊥
EndsThinned thinned Cut Cut = Unit {0}

abbrev pub EndedThinned : {P T E : Type 0} → (List T → List T → Type 0) → Result (LeafEnd (Kept P T)) E → Result (LeafEnd (List T)) E → Type 0
EndedThinned thinned (Err refused) end = Unit {0}
EndedThinned thinned (Ok ended) (Ok end) = EndsThinned thinned ended end
EndedThinned thinned (Ok ended) (Err refused) = ⊥
