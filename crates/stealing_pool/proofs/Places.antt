-- What stands in the places of the leaves.
use Rattle.std.proofs.Common.{◌≡◌, ◌<◌, ◌+◌, ◌∷◌, ℕ, map, replicate, List, [], Option, Some, None, length, get_or, drop, ap, sym, ◌∙◌, refl, subst, inl, inr, arith, add-one, drop-cons}
use Rattle.std.proofs.lemmas.List.{length-map, length-replicate, get_or-map, get_or-replicate, drop_all}
use Rattle.std.specs.Prelude.{All}
use Rattle.std.proofs.Math.ListN.{set, length-set}
use Rattle.std.proofs.lemmas.List.Elements.{All-same, All-head, All-tail}
use Rattle.std.proofs.lemmas.Bool.{cases_lt}
use Rattle.leaf_reading.specs.declared.leaf_end.Portion.{Portion}
use Rattle.stealing_pool.specs.declared.worker.Ran.{Ran}
use Rattle.stealing_pool.specs.declared.worker.Shift.{Shift}
use Rattle.stealing_pool.specs.Jobs.{Work}
use Rattle.stealing_pool.specs.Gathers.{put_in, place_shifts, HoldsLeaf, HoldsLeaves}
use Rattle.stealing_pool.specs.Shifts.{IsRan, IsShift}
use Rattle.leaf_board.specs.Statuses.{Status, AreSeats}
use Rattle.leaf_board.proofs.Sums.{set_each}

-- the first of what is left
pub drop_next : {X : Type 0} (k : ℕ) (xs ys : List X) (x : X) → drop k xs ≡ x ∷ ys → (k < length xs) × ((d : X) → get_or xs k d ≡ x) × (drop (k + 1) xs ≡ ys)
drop_next k xs ys x is =
    elim (cases_lt k (length xs)) [
      | inl within ↦ (
        within,
        (λ d. let e = drop-cons xs k d within in cc),
        (let e = drop-cons xs k x within in rw add-one cc),
      )
      | inr past ↦ absurd (let e = drop_all k xs past in cc)
    ]

-- the loop that puts what was kept in its place
pub put_step : {A : Type 0} (places : List (Option (Portion A))) (all rest rest' : List (Ran A)) (one : Ran A) (start : List (Option (Portion A))) → rest ≡ one ∷ rest'
    → put_in places rest ≡ put_in start all → put_in (set places one.leaf (Some one.portion)) rest' ≡ put_in start all
put_step places all rest rest' one start is old = ap (put_in places) (sym is) ∙ old

pub leaves_left : {A : Type 0} (places : List (Option (Portion A))) (rest rest' : List (Ran A)) (one : Ran A) (kept : Option (Portion A)) → rest ≡ one ∷ rest'
    → All (λ r. r.leaf < length places) rest → (one.leaf < length places) × All (λ r. r.leaf < length (set places one.leaf kept)) rest'
leaves_left places rest rest' one kept is all =
    let P : Ran _ → Type 0 = λ r. r.leaf < length places in
    let whole : All P (one ∷ rest') = All-same P _ _ (sym is) all in
    (All-head P one rest' whole, (λ k d within. rw length-set (All-tail P one rest' whole k d within)))

pub length-put_in : {A : Type 0} (places : List (Option (Portion A))) (ran : List (Ran A)) → length (put_in places ran) ≡ length places
length-put_in places [] = refl
length-put_in places (r ∷ rs) = length-put_in (set places r.leaf (Some r.portion)) rs ∙ length-set places r.leaf (Some r.portion)

pub length-place_shifts : {S A : Type 0} (places : List (Option (Portion A))) (shifts : List (Shift S A)) → length (place_shifts places shifts) ≡ length places
length-place_shifts places [] = refl
length-place_shifts places (s ∷ ss) = length-place_shifts (put_in places s.ran.items) ss ∙ length-put_in places s.ran.items

-- a member of a list that has a place
pub some_of : {X : Type 0} (xs : List X) (k : ℕ) → k < length xs → X
some_of [] k within = absurd (omega arith)
some_of (x ∷ xs) k within = x

module _ {S A : Type 0} (work : Work A) (Is : S → Type 0) (number : S → ℕ) (status : S → ℕ → Status) (made_cut : S → ℕ → Type 0) (seats : List S) (shifts : List (Shift S A)) (all : length shifts ≡ length seats)
    (each : (k : ℕ) (d : S) (e : Shift S A) → k < length seats → IsShift work Is number status made_cut (get_or seats k d) (get_or shifts k e)) where
  pub shifts_within : (n : ℕ) → n ≡ work.leaves → All (λ s. All (λ r. r.leaf < n) s.ran.items) shifts
  shifts_within n is k e within j d inside =
      let place = ((each k e.seat e (omega arith)).ran j d inside).place in omega arith

  pub shifts_seats : (count : ℕ) (back : List S) → AreSeats Is number count seats → back ≡ map (λ s. s.seat) shifts → AreSeats Is number count back
  shifts_seats count back given is =
      let sizes = ap length is ∙ length-map shifts (λ s. s.seat) in record {
        all = let g = given.all in omega arith;
        each = λ k d within.
            let inside : k < length shifts = omega arith in
            let e = some_of shifts k inside in
            let shift = each k d e (omega arith) in
            let at : get_or back k d ≡ (get_or shifts k e).seat = ap (λ xs. get_or xs k d) is ∙ get_or-map (λ s. s.seat) shifts k e d inside in
            let P : S → Type 0 = λ s. Is s × (number s ≡ k) in
            subst P (sym at) (shift.of, shift.numbered ∙ (given.each k d (omega arith)).1);
      }

module _ {A : Type 0} (work : Work A) where
  -- one more leaf in its place
  one_holds : (places : List (Option (Portion A))) (r : Ran A) → length places ≡ work.leaves → HoldsLeaves work places → IsRan work r → HoldsLeaves work (set places r.leaf (Some r.portion))
  one_holds places r size holds ran i d within =
      let inside : r.leaf < length places = let p = ran.place in omega arith in
      set_each (HoldsLeaf work) places r.leaf (Some r.portion) d i inside (λ here. (ran.keeps, ran.lawful, ran.within)) (λ other. holds i d within)

  put_holds : (places : List (Option (Portion A))) (ran : List (Ran A)) → length places ≡ work.leaves → HoldsLeaves work places → All (IsRan work) ran → HoldsLeaves work (put_in places ran)
  put_holds places [] size holds all = holds
  put_holds places (r ∷ rs) size holds all =
      let P : Ran A → Type 0 = IsRan work in
      put_holds (set places r.leaf (Some r.portion)) rs (length-set places r.leaf (Some r.portion) ∙ size) (one_holds places r size holds (All-head P r rs all)) (All-tail P r rs all)

  place_holds : {S : Type 0} (places : List (Option (Portion A))) (shifts : List (Shift S A)) → length places ≡ work.leaves → HoldsLeaves work places → All (λ s. All (IsRan work) s.ran.items) shifts → HoldsLeaves work (place_shifts places shifts)
  place_holds places [] size holds all = holds
  place_holds {S} places (s ∷ ss) size holds all =
      let P : Shift S A → Type 0 = λ t. All (IsRan work) t.ran.items in
      place_holds (put_in places s.ran.items) ss (length-put_in places s.ran.items ∙ size) (put_holds places s.ran.items size holds (All-head P s ss all)) (All-tail P s ss all)

  -- the places of all shifts hold what is lawful
  pub placed_holds : {S : Type 0} (n : ℕ) (shifts : List (Shift S A)) (places : List (Option (Portion A))) → n ≡ work.leaves → places ≡ place_shifts (replicate n None) shifts → All (λ s. All (IsRan work) s.ran.items) shifts → HoldsLeaves work places
  placed_holds n shifts places size is all =
      let P : List (Option (Portion A)) → Type 0 = λ ps. HoldsLeaves work ps in
      subst P (sym is)
      (place_holds (replicate n None) shifts (length-replicate n None ∙ size)
      (λ i d within. let Q : Option (Portion A) → Type 0 = HoldsLeaf work i in subst Q (sym (get_or-replicate n i None d (omega arith))) tt) all)

pub placed_len : {S A : Type 0} (n : ℕ) (shifts : List (Shift S A)) (places : List (Option (Portion A))) → places ≡ place_shifts (replicate n None) shifts → length places ≡ n
placed_len n shifts places is = ap length is ∙ (length-place_shifts (replicate n None) shifts ∙ length-replicate n None)
