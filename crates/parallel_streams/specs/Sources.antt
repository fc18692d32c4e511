-- What a stream over a source tells.
use Rattle.std.specs.Prelude.{◌≡◌, ◌<◌, ◌+◌, ◌^◌, ◌++◌, [], fold, ℕ, Bool, true, false, IsTrue, if◌then◌else◌, List, length, Option, Some, None, IfSome, refl}
use Rattle.std.proofs.Common.{ap}
use Rattle.std.specs.declared.cmp.Ordering.{Ordering}
use Rattle.spliterator.specs.Characteristics.{tells}
use Rattle.spliterator.specs.declared.characteristics.TheConstants.{SIZED}
use Rattle.spliterator.specs.Spliterator.{IsEstimate, IsSoundFor}
use Rattle.stages.specs.declared.flags.StreamFlags.{StreamFlags}
use Rattle.stages.specs.Flags.{flags_of, IsSound}
use Rattle.stealing_pool.specs.Jobs.{Work}

abbrev pub source_size : ℕ → ℕ → Option ℕ
source_size told estimate = if tells told SIZED then Some estimate else None

abbrev pub source_flags : ℕ → StreamFlags
source_flags told = flags_of told

-- the items of the parts behind a segment, of which the last stands next
abbrev pub items_behind : {S C : Type 0} → (S → List C) → List S → List C
items_behind items parts = fold (λ behind part. items part ++ behind) [] parts

-- a weight of these parts that falls at each split and with each part
abbrev pub weight_behind : {S : Type 0} → (S → ℕ) → List S → ℕ
weight_behind weight parts = fold (λ behind part. 2 ^ weight part + behind) 0 parts

-- a source has no barrier: nothing is kept of its leaves
abbrev pub idle_work : {P : Type 0} → ℕ → Work P
idle_work n = record { leaves = n; full = λ i. 0; needed = None; Keeps = λ from to count part. count ≡ 0 }

exact : {C : Type 0} (estimate : ℕ) (items : List C) (b : Bool) → (IsTrue b → estimate ≡ length items) → (if b then Some estimate else None) ≡ (if b then Some (length items) else None)
exact estimate items true h = ap Some (h refl)
exact estimate items false h = refl

few : (estimate : ℕ) (b : Bool) → estimate < 2 ^ 63 → IfSome (if b then Some estimate else None) (λ n. n < 2 ^ 63)
few estimate true h = h
few estimate false h = tt

pub IsSound-source : {C : Type 0} (order : C → C → Ordering) (told estimate : ℕ) (items : List C) → IsEstimate told estimate items → IsSoundFor order told items → IsSound order (source_flags told) (source_size told estimate) items
IsSound-source order told estimate items sizes sound = record {
  distinct = λ h. sound.distinct h;
  sorted = λ h. sound.sorted h;
  sized = exact estimate items (tells told SIZED) sizes.exact;
  at_most = few estimate (tells told SIZED) sizes.at_most;
}
