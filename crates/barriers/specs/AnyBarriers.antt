-- What one of the barriers makes of a list, where it is chosen at run time. With the state of another barrier it is over: nothing is left of what comes.
use Rattle.std.specs.Prelude.{◌-◌, ℕ, Bool, not, List, [], map, take, drop, take_while, Option, Some, None, option_map, min, ⊤}
use Rattle.stages.specs.declared.flags.Operation.{Operation}
use Rattle.stages.specs.declared.flags.Operation.TheVariants as rows
use Rattle.stages.specs.Distinct.{distinct, distinct_after}
use Rattle.barriers.specs.declared.any_barrier.AnyBarrier.{AnyBarrier}
use Rattle.barriers.specs.declared.any_barrier.AnyBarrier.TheVariants.{Distinct, Limit, Skip, TakeWhile, DropWhile}
use Rattle.barriers.specs.declared.any_barrier.AnyState.{AnyState}
use Rattle.barriers.specs.declared.any_barrier.AnyState.TheVariants as states
use Rattle.barriers.specs.declared.whiles.TakeWhile.{TakeWhile as OneTakeWhile}
use Rattle.barriers.specs.Needs.{every_item, no_item}
use Rattle.barriers.specs.Whiles.{drop_while, taken_while, left_while}

-- a while's test is ready
abbrev pub any_ready : {P S : Type 0} → (P → Type 0) → AnyBarrier P S → Type 0
any_ready ready (TakeWhile b) = ready b.test
any_ready ready (DropWhile b) = ready b.test
any_ready ready _ = ⊤

abbrev pub any_needed : {P S : Type 0} → AnyBarrier P S → Option ℕ
any_needed (Limit b) = Some b.most
any_needed (TakeWhile b) = Some 1
any_needed _ = None

abbrev pub any_counted : {P S X : Type 0} → (P → X → Bool) → AnyBarrier P S → X → Bool
any_counted holds (Limit b) = every_item
any_counted holds (TakeWhile b) = λ x. not (holds b.test x)
any_counted holds _ = no_item

abbrev pub any_value : {P S X : Type 0} → (X → X → Bool) → (P → X → Bool) → AnyBarrier P S → List X → List X
any_value same holds (Distinct b) items = distinct same items
any_value same holds (Limit b) items = take b.most items
any_value same holds (Skip b) items = drop b.number items
any_value same holds (TakeWhile b) items = take_while (holds b.test) items
any_value same holds (DropWhile b) items = drop_while (holds b.test) items

abbrev pub any_operation : {P S : Type 0} → AnyBarrier P S → Operation
any_operation (Distinct b) = rows.Distinct
any_operation (Limit b) = rows.Limit
any_operation (Skip b) = rows.Skip
any_operation (TakeWhile b) = rows.TakeWhile
any_operation (DropWhile b) = rows.DropWhile

abbrev pub any_size_after : {P S : Type 0} → AnyBarrier P S → Option ℕ → Option ℕ
any_size_after (Limit b) size = option_map (min b.most) size
any_size_after (Skip b) size = option_map (λ s. s - b.number) size
any_size_after _ size = None

-- distinct items are carried as clones
abbrev pub any_can_carry : {P S : Type 0} → Type 0 → AnyBarrier P S → Type 0
any_can_carry clones_alike (Distinct b) = clones_alike
any_can_carry clones_alike _ = ⊤

-- how many counting items are needed behind a state
abbrev pub any_needed_behind : {P S T Hasher : Type 0} → (OneTakeWhile P → Bool → Option ℕ) → AnyBarrier P S → AnyState T S Hasher → Option ℕ
any_needed_behind while_needed (Distinct b) (states.Distinct came) = None
any_needed_behind while_needed (Limit b) (states.Limit left) = Some left.most
any_needed_behind while_needed (Skip b) (states.Skip left) = None
any_needed_behind while_needed (TakeWhile b) (states.TakeWhile is_open) = while_needed b is_open
any_needed_behind while_needed (DropWhile b) (states.DropWhile is_dropping) = None
any_needed_behind while_needed _ _ = Some 0

module _ {P S T Hasher X : Type 0} (content : T → X) (same : X → X → Bool) (holds : P → X → Bool) where
  abbrev pub any_value_behind : AnyBarrier P S → AnyState T S Hasher → List X → List X
  any_value_behind (Distinct b) (states.Distinct came) items = distinct_after same (map content came.keys) items
  any_value_behind (Limit b) (states.Limit left) items = take left.most items
  any_value_behind (Skip b) (states.Skip left) items = drop left.number items
  any_value_behind (TakeWhile b) (states.TakeWhile is_open) items = taken_while is_open (holds b.test) items
  any_value_behind (DropWhile b) (states.DropWhile is_dropping) items = left_while is_dropping (holds b.test) items
  any_value_behind _ _ items = []
