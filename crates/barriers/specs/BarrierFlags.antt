-- Why the flags after a barrier are sound.
use Rattle.std.specs.Prelude.{◌≡◌, ◌≢◌, ◌+◌, ◌-◌, ◌<◌, ◌^◌, ℕ, suc, min, Bool, true, false, cond, IsTrue, if◌then◌else◌, All, List, [], ◌∷◌, ◌++◌, length, take, drop, take_while, slice_index_or, Option, Some, None, option_map, IfSome, refl}
use Rattle.std.proofs.Common.{ap, ◌∙◌, sym, subst, arith, true≢false}
use Rattle.std.specs.List.{AllPairs, prefix_len, list_any}
use Rattle.std.proofs.lemmas.List.Elements.{All-cons}
use Rattle.std.proofs.lemmas.List.Kept.{AllPairs-cons}
use Rattle.std.specs.declared.cmp.Ordering.{Ordering}
use Rattle.std.specs.Ordering.{is_le}
use Rattle.std.proofs.lemmas.List.{length-append, length-take, length-drop, take-append-drop, get_or_append_left, get_or-append-add}
use Rattle.stages.specs.declared.flags.Operation.TheVariants.{Limit, Skip, TakeWhile, DropWhile, Distinct}
use Rattle.spliterator.specs.Values.{DecidesEquality}
use Rattle.stages.specs.Tests.{or-false_left, or-false_right}
use Rattle.stages.specs.Distinct.{distinct, distinct_after, AllApart}
use Rattle.stages.specs.DistinctLaws.{distinct-apart}
use Rattle.barriers.specs.Whiles.{drop_while}
use Rattle.stages.specs.Flags.{KeepsSound}

-- what holds of each member and each later one holds in a front
all_pairs-front : {C : Type 0} (R : C → C → Type 0) (front rest : List C) → AllPairs R (front ++ rest) → AllPairs R front
all_pairs-front {C} R front rest h i j d before within =
    let P : C → Type 0 = λ c. R c (slice_index_or (front ++ rest) j d) in
    let Q : C → Type 0 = λ c. R (slice_index_or front i d) c in
    let inside : j < length (front ++ rest) = let e = length-append front rest in omega arith in
    subst Q (get_or_append_left front rest d j within) (subst P (get_or_append_left front rest d i (omega arith)) (h i j d before inside))

all_pairs-take : {C : Type 0} (R : C → C → Type 0) (n : ℕ) (items : List C) → AllPairs R items → AllPairs R (take n items)
all_pairs-take {C} R n items h =
    let P : List C → Type 0 = λ l. AllPairs R l in
    all_pairs-front R (take n items) (drop n items) (subst P (sym (take-append-drop n items)) h)

shorter : (n : ℕ) (size : Option ℕ) → IfSome size (λ s. s < 2 ^ 63) → IfSome (option_map (min n) size) (λ s. s < 2 ^ 63)
shorter n None h = tt
shorter n (Some s) h = below n s h
  where
    below : (n s : ℕ) → s < 2 ^ 63 → min n s < 2 ^ 63
    below n s h = omega arith

pub KeepsSound-take : {C : Type 0} (order : C → C → Ordering) (n : ℕ) → KeepsSound order order Limit (option_map (min n)) (take n)
KeepsSound-take order n flags size items sound = record {
  distinct = λ h. all_pairs-take (λ c d. c ≢ d) n items (sound.distinct h);
  sorted = λ h. all_pairs-take (λ c d. IsTrue (is_le (order c d))) n items (sound.sorted h);
  sized = ap (option_map (min n)) sound.sized ∙ known flags.sized;
  at_most = shorter n size sound.at_most;
}
  where
    known : (b : Bool) → option_map (min n) (if b then Some (length items) else None) ≡ (if b then Some (length (take n items)) else None)
    known true = ap Some (sym (length-take n items))
    known false = refl

-- what holds of each member and each later one holds in what follows a front
all_pairs-rest : {C : Type 0} (R : C → C → Type 0) (front rest : List C) → AllPairs R (front ++ rest) → AllPairs R rest
all_pairs-rest {C} R front rest h i j d before within =
    let P : C → Type 0 = λ c. R c (slice_index_or (front ++ rest) (length front + j) d) in
    let Q : C → Type 0 = λ c. R (slice_index_or rest i d) c in
    let inside : length front + j < length (front ++ rest) = let e = length-append front rest in omega arith in
    subst Q (get_or-append-add front rest j d) (subst P (get_or-append-add front rest i d) (h (length front + i) (length front + j) d (omega arith) inside))

all_pairs-drop : {C : Type 0} (R : C → C → Type 0) (n : ℕ) (items : List C) → AllPairs R items → AllPairs R (drop n items)
all_pairs-drop {C} R n items h =
    let P : List C → Type 0 = λ l. AllPairs R l in
    all_pairs-rest R (take n items) (drop n items) (subst P (sym (take-append-drop n items)) h)

less : (n : ℕ) (size : Option ℕ) → IfSome size (λ s. s < 2 ^ 63) → IfSome (option_map (λ s. s - n) size) (λ s. s < 2 ^ 63)
less n None h = tt
less n (Some s) h = below n s h
  where
    below : (n s : ℕ) → s < 2 ^ 63 → s - n < 2 ^ 63
    below n s h = omega arith

pub KeepsSound-drop : {C : Type 0} (order : C → C → Ordering) (n : ℕ) → KeepsSound order order Skip (option_map (λ size. size - n)) (drop n)
KeepsSound-drop order n flags size items sound = record {
  distinct = λ h. all_pairs-drop (λ c d. c ≢ d) n items (sound.distinct h);
  sorted = λ h. all_pairs-drop (λ c d. IsTrue (is_le (order c d))) n items (sound.sorted h);
  sized = ap (option_map (λ s. s - n)) sound.sized ∙ known flags.sized;
  at_most = less n size sound.at_most;
}
  where
    known : (b : Bool) → option_map (λ s. s - n) (if b then Some (length items) else None) ≡ (if b then Some (length (drop n items)) else None)
    known true = ap Some (sym (length-drop n items))
    known false = refl

pub KeepsSound-take_while : {C : Type 0} (order : C → C → Ordering) (p : C → Bool) → KeepsSound order order TakeWhile (λ _. None) (take_while p)
KeepsSound-take_while order p flags size items sound = record {
  distinct = λ h. all_pairs-take (λ c d. c ≢ d) (prefix_len p items) items (sound.distinct h);
  sorted = λ h. all_pairs-take (λ c d. IsTrue (is_le (order c d))) (prefix_len p items) items (sound.sorted h);
  sized = refl;
  at_most = tt;
}

pub KeepsSound-drop_while : {C : Type 0} (order : C → C → Ordering) (p : C → Bool) → KeepsSound order order DropWhile (λ _. None) (drop_while p)
KeepsSound-drop_while order p flags size items sound = record {
  distinct = λ h. all_pairs-drop (λ c d. c ≢ d) (prefix_len p items) items (sound.distinct h);
  sorted = λ h. all_pairs-drop (λ c d. IsTrue (is_le (order c d))) (prefix_len p items) items (sound.sorted h);
  sized = refl;
  at_most = tt;
}

-- what holds of the head and each later member
all_pairs-head : {C : Type 0} (R : C → C → Type 0) (c : C) (items : List C) → AllPairs R (c ∷ items) → All (R c) items
all_pairs-head R c items h k d within = h 0 (suc k) d (omega arith) (omega arith)

module _ {C : Type 0} (same : C → C → Bool) where
  all-distinct : (P : C → Type 0) (earlier items : List C) → All P items → All P (distinct_after same earlier items)
  all-distinct P earlier [] h = h
  all-distinct P earlier (c ∷ items) h =
      choice (list_any (same c) earlier) (all-distinct P (earlier ++ c ∷ []) items (λ k d within. h (suc k) d (omega arith)))
    where
      choice : (b : Bool) → All P (distinct_after same (earlier ++ c ∷ []) items)
          → All P (cond b (distinct_after same (earlier ++ c ∷ []) items) (c ∷ distinct_after same (earlier ++ c ∷ []) items))
      choice true rest = rest
      choice false rest = All-cons P c (distinct_after same (earlier ++ c ∷ []) items) (h 0 c (omega arith)) rest

  all_pairs-distinct : (R : C → C → Type 0) (earlier items : List C) → AllPairs R items → AllPairs R (distinct_after same earlier items)
  all_pairs-distinct R earlier [] h = h
  all_pairs-distinct R earlier (c ∷ items) h =
      choice (list_any (same c) earlier) (all_pairs-distinct R (earlier ++ c ∷ []) items (all_pairs-rest R (c ∷ []) items h))
    where
      choice : (b : Bool) → AllPairs R (distinct_after same (earlier ++ c ∷ []) items)
          → AllPairs R (cond b (distinct_after same (earlier ++ c ∷ []) items) (c ∷ distinct_after same (earlier ++ c ∷ []) items))
      choice true rest = rest
      choice false rest =
          AllPairs-cons R c (distinct_after same (earlier ++ c ∷ []) items) (all-distinct (R c) (earlier ++ c ∷ []) items (all_pairs-head R c items h)) rest

  -- members that are all apart are unequal, each to each later one
  apart-unequal : DecidesEquality same → (items : List C) → AllApart same items → AllPairs (λ c d. c ≢ d) items
  apart-unequal decides [] h = λ i j d before within. absurd (omega arith)
  apart-unequal decides (c ∷ items) h = AllPairs-cons (λ c d. c ≢ d) c items (unlike items h.0) (apart-unequal decides items h.1)
    where
      unlike : (items : List C) → list_any (same c) items ≡ false → All (λ d. c ≢ d) items
      unlike [] none = λ k d within. absurd (omega arith)
      unlike (e ∷ items) none =
          All-cons (λ d. c ≢ d) e items
          (λ equal. true≢false (sym ((decides c e).1 equal) ∙ or-false_left (same c e) (list_any (same c) items) none))
          (unlike items (or-false_right (same c e) (list_any (same c) items) none))

pub KeepsSound-distinct : {C : Type 0} (same : C → C → Bool) → DecidesEquality same → (order : C → C → Ordering) → KeepsSound order order Distinct (λ _. None) (distinct same)
KeepsSound-distinct same decides order flags size items sound = record {
  distinct = λ h. apart-unequal same decides (distinct same items) (distinct-apart same decides items);
  sorted = λ h. all_pairs-distinct same (λ c d. IsTrue (is_le (order c d))) [] items (sound.sorted h);
  sized = refl;
  at_most = tt;
}
