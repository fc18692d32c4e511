-- Flags of items behind stages.
use Rattle.std.proofs.Common.{true≢false, ◌≢◌, ℕ, List, Option, Some, None, IsTrue, if◌then◌else◌, ap, ◌∙◌, sym, refl}
use Rattle.std.{proofs.lemmas.List.length-map, proofs.lemmas.List.Kept.AllPairs-filter, specs.Ordering.is_le, specs.declared.cmp.Ordering.Ordering}
use Rattle.stages.specs.Flags.{IsSound, after}
use Rattle.stages.specs.{FlagLaws.KeepsSound-flat_map, declared.flags.Operation.Operation, declared.flags.StreamFlags.StreamFlags}
use Rattle.stages.specs.declared.flags.Operation.TheVariants as operations
use Rattle.barriers.specs.BarrierFlags.{KeepsSound-distinct, KeepsSound-drop, KeepsSound-drop_while, KeepsSound-take, KeepsSound-take_while}
use Rattle.pipeline_meaning.specs.Stages.{Meaning, StageOf, stage_list}
use Rattle.pipeline_language.specs.declared.grammar.Barrier.TheVariants.{Distinct, Counted, While}
use Rattle.pipeline_language.specs.declared.grammar.Part.TheVariants.{Front, Rest}
use Rattle.pipeline_language.specs.declared.grammar.Stage.TheVariants.{Map, Filter, FlatMap, Barrier}

-- what the flags tell holds of the items, of whose number nothing is told
abbrev pub AreFlags : {X : Type 0} → (X → X → Ordering) → StreamFlags → List X → Type 0
AreFlags order flags l = IsSound order flags None l

abbrev pub operation_of : {F P E : Type 0} → StageOf F P E → Operation
operation_of (Map f) = operations.Map
operation_of (Filter p) = operations.Filter
operation_of (FlatMap e) = operations.FlatMap
operation_of (Barrier Distinct) = operations.Distinct
operation_of (Barrier (Counted Front n)) = operations.Limit
operation_of (Barrier (Counted Rest n)) = operations.Skip
operation_of (Barrier (While Front p)) = operations.TakeWhile
operation_of (Barrier (While Rest p)) = operations.DropWhile

-- a number that is told is left out
pub without_size : {X : Type 0} (order : X → X → Ordering) (flags : StreamFlags) (size : Option ℕ) (l : List X) → IsSound order flags size l → AreFlags order (after flags operations.Filter) l
without_size order flags size l sound = record { distinct = sound.distinct; sorted = sound.sorted; sized = refl; at_most = tt }

-- the flags of the items before a stage tell those behind it
pub keeps-flags : {F P E X : Type 0} (m : Meaning F P E X) (order : X → X → Ordering) (s : StageOf F P E) (flags : StreamFlags) (l : List X)
    → AreFlags order flags l → AreFlags order (after flags (operation_of s)) (stage_list m s l)
keeps-flags m order (Map f) flags l sound = record {
  distinct = λ h. absurd (true≢false (sym h));
  sorted = λ h. absurd (true≢false (sym h));
  sized = sound.sized ∙ ap (λ n. if flags.sized then Some n else None) (sym (length-map l (m.image f)));
  at_most = tt;
}
keeps-flags m order (Filter p) flags l sound = record {
  distinct = λ h. AllPairs-filter (λ c d. c ≢ d) (m.holds p) l (sound.distinct h);
  sorted = λ h. AllPairs-filter (λ c d. IsTrue (is_le (order c d))) (m.holds p) l (sound.sorted h);
  sized = refl;
  at_most = tt;
}
keeps-flags m order (FlatMap e) flags l sound = KeepsSound-flat_map order order (m.expand e) flags None l sound
keeps-flags m order (Barrier Distinct) flags l sound = KeepsSound-distinct m.same m.decides order flags None l sound
keeps-flags m order (Barrier (Counted Front n)) flags l sound = KeepsSound-take order n.number flags None l sound
keeps-flags m order (Barrier (Counted Rest n)) flags l sound = KeepsSound-drop order n.number flags None l sound
keeps-flags m order (Barrier (While Front p)) flags l sound = KeepsSound-take_while order (m.holds p) flags None l sound
keeps-flags m order (Barrier (While Rest p)) flags l sound = KeepsSound-drop_while order (m.holds p) flags None l sound
