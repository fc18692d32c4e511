-- The laws of one of the barriers, which is chosen at run time: those of that barrier.
use Rattle.std.specs.Prelude.{◌≡◌, ℕ, Bool, not, List, [], map, drop, Option, Result, IfOk, count_by, refl}
use Rattle.std.proofs.Common.{subst, sym}
use Rattle.std.specs.declared.cmp.Ordering.{Ordering}
use Rattle.spliterator.specs.Values.{DecidesEquality}
use Rattle.stages.specs.Distinct.{distinct, distinct_after}
use Rattle.stages.specs.Flags.{KeepsSound}
use Rattle.barriers.specs.declared.any_barrier.AnyBarrier.{AnyBarrier}
use Rattle.barriers.specs.declared.any_barrier.AnyBarrier.TheVariants.{Distinct, Limit, Skip, TakeWhile, DropWhile}
use Rattle.barriers.specs.declared.any_barrier.AnyState.{AnyState}
use Rattle.barriers.specs.declared.any_barrier.AnyState.TheVariants as states
use Rattle.barriers.specs.declared.whiles.TakeWhile.{TakeWhile as OneTakeWhile}
use Rattle.barriers.specs.Needs.{less_needed, no_item, KeepsEnough}
use Rattle.barriers.specs.NeedLaws.{KeepsEnough-never, KeepsEnough-take, KeepsEnough-take_while}
use Rattle.barriers.specs.Parts.{take-nothing, drop-nothing, taken-nothing, left-nothing}
use Rattle.barriers.specs.BarrierFlags.{KeepsSound-distinct, KeepsSound-take, KeepsSound-drop, KeepsSound-take_while, KeepsSound-drop_while}
use Rattle.barriers.specs.Whiles.{drop_while, taken_while, left_while}
use Rattle.barriers.specs.AnyBarriers.{any_needed, any_counted, any_value, any_operation, any_size_after, any_needed_behind, any_value_behind}

module _ {P S X : Type 0} (same : X → X → Bool) (holds : P → X → Bool) where
  pub KeepsEnough-any : (b : AnyBarrier P S) → KeepsEnough (any_needed b) (any_counted holds b) (any_value same holds b)
  KeepsEnough-any (Distinct b) = KeepsEnough-never no_item (distinct same)
  KeepsEnough-any (Limit b) = KeepsEnough-take b.most
  KeepsEnough-any (Skip b) = KeepsEnough-never no_item (drop b.number)
  KeepsEnough-any (TakeWhile b) = KeepsEnough-take_while (holds b.test)
  KeepsEnough-any (DropWhile b) = KeepsEnough-never no_item (drop_while (holds b.test))

  pub KeepsSound-any : DecidesEquality same → (order : X → X → Ordering) (b : AnyBarrier P S) → KeepsSound order order (any_operation b) (any_size_after b) (any_value same holds b)
  KeepsSound-any decides order (Distinct b) = KeepsSound-distinct same decides order
  KeepsSound-any decides order (Limit b) = KeepsSound-take order b.most
  KeepsSound-any decides order (Skip b) = KeepsSound-drop order b.number
  KeepsSound-any decides order (TakeWhile b) = KeepsSound-take_while order (holds b.test)
  KeepsSound-any decides order (DropWhile b) = KeepsSound-drop_while order (holds b.test)

  module _ {T Hasher : Type 0} (content : T → X) where
    pub nothing-any : (b : AnyBarrier P S) (state : AnyState T S Hasher) → any_value_behind content same holds b state [] ≡ []
    nothing-any (Distinct b) (states.Distinct came) = refl
    nothing-any (Limit b) (states.Limit left) = take-nothing left.most
    nothing-any (Skip b) (states.Skip left) = drop-nothing left.number
    nothing-any (TakeWhile b) (states.TakeWhile is_open) = taken-nothing is_open (holds b.test)
    nothing-any (DropWhile b) (states.DropWhile is_dropping) = left-nothing is_dropping (holds b.test)
    nothing-any _ _ = refl

    -- a take while tells by itself how many it needs behind its state, and why they are enough
    pub KeepsEnough-any_behind : (while_needed : OneTakeWhile P → Bool → Option ℕ)
        → ((b : OneTakeWhile P) (is_open : Bool) → KeepsEnough (while_needed b is_open) (λ x. not (holds b.test x)) (taken_while is_open (holds b.test)))
        → (b : AnyBarrier P S) (state : AnyState T S Hasher) → KeepsEnough (any_needed_behind while_needed b state) (any_counted holds b) (any_value_behind content same holds b state)
    KeepsEnough-any_behind while_needed law (Distinct b) (states.Distinct came) = KeepsEnough-never no_item (distinct_after same (map content came.keys))
    KeepsEnough-any_behind while_needed law (Limit b) (states.Limit left) = KeepsEnough-take left.most
    KeepsEnough-any_behind while_needed law (Skip b) (states.Skip left) = KeepsEnough-never no_item (drop left.number)
    KeepsEnough-any_behind while_needed law (TakeWhile b) (states.TakeWhile is_open) = law b is_open
    KeepsEnough-any_behind while_needed law (DropWhile b) (states.DropWhile is_dropping) = KeepsEnough-never no_item (left_while is_dropping (holds b.test))
    KeepsEnough-any_behind while_needed law _ _ = λ front more enough. refl

-- what a carry says of the barrier and the state that are told apart, it says of these
module _ {P S T Hasher X R E : Type 0} (while_needed : OneTakeWhile P → Bool → Option ℕ) (holds : P → X → Bool) (new : AnyState T S Hasher) (items : List X) (r : Result R E) where
  abbrev Lessened : AnyBarrier P S → AnyState T S Hasher → Type 0
  Lessened b state = IfOk r (λ _. any_needed_behind while_needed b new ≡ less_needed (any_needed_behind while_needed b state) (count_by (any_counted holds b) items))

  pub lessened-any : (b is_b : AnyBarrier P S) (state is_state : AnyState T S Hasher) → b ≡ is_b → state ≡ is_state → Lessened is_b is_state → Lessened b state
  lessened-any b is_b state is_state is of h = subst (λ a. Lessened a state) (sym is) (subst (λ s. Lessened is_b s) (sym of) h)
