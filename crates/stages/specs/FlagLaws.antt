-- Why the flags after a stage are sound.
use Rattle.std.specs.Prelude.{◌≡◌, ◌≢◌, ◌<◌, ◌^◌, ℕ, suc, IfSome, Bool, true, false, cond, if◌then◌else◌, List, [], ◌∷◌, ◌++◌, filter, flat_map, length, Some, None, IsTrue, refl}
use Rattle.std.proofs.Common.{ap, ◌∙◌, sym, subst, true≢false}
use Rattle.std.specs.List.{AllPairs}
use Rattle.std.specs.declared.cmp.Ordering.{Ordering}
use Rattle.std.specs.Ordering.{is_le}
use Rattle.std.proofs.lemmas.List.Kept.{AllPairs-filter}
use Rattle.stages.specs.declared.flags.Operation.TheVariants.{Map, Filter, FlatMap}
use Rattle.spliterator.specs.Characteristics.{tells}
use Rattle.spliterator.specs.declared.characteristics.TheConstants.{SIZED}
use Rattle.spliterator.specs.Spliterator.{IsSoundFor, IsEstimate}
use Rattle.stages.specs.Flags.{KeepsSound, IsSound, flags_of}

length-each : {C D : Type 0} (f : C → D) (l : List C) → length (flat_map (λ x. f x ∷ []) l) ≡ length l
length-each f [] = refl
length-each f (x ∷ l) = ap suc (length-each f l)

kept-filter : {C : Type 0} (p : C → Bool) (l : List C) → filter p l ≡ flat_map (λ x. cond (p x) (x ∷ []) []) l
kept-filter p [] = refl
kept-filter p (x ∷ l) = head (flat_map (λ x. cond (p x) (x ∷ []) []) l) (kept-filter p l) (p x)
  where
    head : (kept : List _) → filter p l ≡ kept → (b : Bool) → cond b (x ∷ filter p l) (filter p l) ≡ cond b (x ∷ []) [] ++ kept
    head kept e true = ap (λ l. x ∷ l) e
    head kept e false = e

-- one image an item
pub KeepsSound-map : {C D : Type 0} (before : C → C → Ordering) (later : D → D → Ordering) (f : C → D) → KeepsSound before later Map (λ size. size) (flat_map (λ x. f x ∷ []))
KeepsSound-map before later f flags size items sound = record {
  distinct = λ h. absurd (true≢false (sym h));
  sorted = λ h. absurd (true≢false (sym h));
  sized = sound.sized ∙ ap (λ n. if flags.sized then Some n else None) (sym (length-each f items));
  at_most = sound.at_most;
}

-- any list of images an item
pub KeepsSound-flat_map : {C D : Type 0} (before : C → C → Ordering) (later : D → D → Ordering) (f : C → List D) → KeepsSound before later FlatMap (λ _. None) (flat_map f)
KeepsSound-flat_map before later f flags size items sound = record { distinct = λ h. absurd (true≢false (sym h)); sorted = λ h. absurd (true≢false (sym h)); sized = refl; at_most = tt }

-- a part of the items
pub KeepsSound-filter : {C : Type 0} (order : C → C → Ordering) (p : C → Bool) → KeepsSound order order Filter (λ _. None) (flat_map (λ x. cond (p x) (x ∷ []) []))
KeepsSound-filter {C} order p flags size items sound = record {
  distinct = λ h. kept (λ c d. c ≢ d) (sound.distinct h);
  sorted = λ h. kept (λ c d. IsTrue (is_le (order c d))) (sound.sorted h);
  sized = refl;
  at_most = tt;
}
  where
    kept : (R : C → C → Type 0) → AllPairs R items → AllPairs R (flat_map (λ x. cond (p x) (x ∷ []) []) items)
    kept R h = let P : List C → Type 0 = λ l. AllPairs R l in subst P (kept-filter p items) (AllPairs-filter R p items h)

-- the flags of a source, with its estimate as the known size where it is told
pub IsSound-source : {C : Type 0} (order : C → C → Ordering) (told estimate : ℕ) (items : List C) → IsSoundFor order told items → IsEstimate told estimate items
    → IsSound order (flags_of told) (if tells told SIZED then Some estimate else None) items
IsSound-source order told estimate items sound exact = record {
  distinct = sound.distinct;
  sorted = sound.sorted;
  sized = known (tells told SIZED) exact.exact;
  at_most = below (tells told SIZED);
}
  where
    known : (b : Bool) → (IsTrue b → estimate ≡ length items) → (if b then Some estimate else None) ≡ (if b then Some (length items) else None)
    known true h = ap Some (h refl)
    known false h = refl

    below : (b : Bool) → IfSome (if b then Some estimate else None) (λ n. n < 2 ^ 63)
    below true = exact.at_most
    below false = tt
