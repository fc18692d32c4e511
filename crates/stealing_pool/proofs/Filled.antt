-- Which places are filled, and what the board's record says.
use Rattle.std.proofs.Common.{◌≡◌, ◌≢◌, ◌<◌, ◌+◌, ◌∷◌, ◌∙◌, ℕ, zero, suc, List, [], Option, Some, None, length, get_or, ap, sym, refl, subst, inl, inr, arith, get_or-set_same, get_or-set_other, false, map, replicate, ◌⊎◌}
use Rattle.std.specs.Prelude.{All}
use Rattle.std.proofs.Math.ListN.{set, length-set}
use Rattle.std.proofs.lemmas.Bool.{cases_eq}
use Rattle.std.proofs.lemmas.List.{length-map, length-replicate, get_or-map}
use Rattle.std.proofs.lemmas.List.Elements.{All-head, All-tail}
use Rattle.barriers.specs.Needs.{Reaches}
use Rattle.leaf_board.specs.Case.{sum_below, IsLawful}
use Rattle.leaf_board.specs.Statuses.{Status, Unknown, Given, Published, Skipped}
use Rattle.leaf_board.specs.Records.{Closes}
use Rattle.leaf_board.proofs.Sums.{sum_below-same}
use Rattle.leaf_reading.specs.declared.leaf_end.Portion.{Portion}
use Rattle.stealing_pool.specs.declared.worker.Ran.{Ran}
use Rattle.stealing_pool.specs.declared.worker.Shift.{Shift}
use Rattle.stealing_pool.specs.Jobs.{Work, IsCase}
use Rattle.stealing_pool.specs.Shifts.{IsRan, IsShift}
use Rattle.stealing_pool.specs.Gathers.{put_in, place_shifts, HasLeaves}
use Rattle.stealing_pool.specs.Reports.{Reported, Reports}
use Rattle.stealing_pool.proofs.Places.{length-put_in, some_of}

module _ {A : Type 0} where
  -- a filled place stays filled
  set_keeps : (places : List (Option (Portion A))) (r : Ran A) (i : ℕ) → i < length places → ((d : Option (Portion A)) → get_or places i d ≢ None) → (d : Option (Portion A)) → get_or (set places r.leaf (Some r.portion)) i d ≢ None
  set_keeps places r i inside filled d =
      elim (cases_eq i r.leaf) [
        | inl here ↦
            (let P : ℕ → Type 0 = λ j. get_or (set places r.leaf (Some r.portion)) j d ≢ None in
            let at : r.leaf < length places = omega arith in
            subst P (sym here) (rw get_or-set_same (λ bad. cc)))
        | inr other ↦ rw get_or-set_other (filled d)
      ]

  pub put_keeps : (places : List (Option (Portion A))) (ran : List (Ran A)) (i : ℕ) → i < length places → ((d : Option (Portion A)) → get_or places i d ≢ None) → (d : Option (Portion A)) → get_or (put_in places ran) i d ≢ None
  put_keeps places [] i inside filled d = filled d
  put_keeps places (r ∷ rs) i inside filled d = put_keeps (set places r.leaf (Some r.portion)) rs i (rw length-set inside) (set_keeps places r i inside filled) d

  pub put_fills : (places : List (Option (Portion A))) (ran : List (Ran A)) (k : ℕ) → All (λ r. r.leaf < length places) ran → k < length ran → (e : Ran A) (d : Option (Portion A)) → get_or (put_in places ran) (get_or ran k e).leaf d ≢ None
  put_fills places [] k all within e d = absurd (omega arith)
  put_fills places (r ∷ rs) zero all within e d =
      let P : Ran A → Type 0 = λ s. s.leaf < length places in
      let at : r.leaf < length places = All-head P r rs all in
      put_keeps (set places r.leaf (Some r.portion)) rs r.leaf (rw length-set at) (λ x. rw get_or-set_same (λ bad. cc)) d
  put_fills places (r ∷ rs) (suc k) all within e d =
      let P : Ran A → Type 0 = λ s. s.leaf < length places in
      put_fills (set places r.leaf (Some r.portion)) rs k (λ j x w. rw length-set (All-tail P r rs all j x w)) (omega arith) e d

module _ {S A : Type 0} where
  place_keeps : (places : List (Option (Portion A))) (shifts : List (Shift S A)) (i : ℕ) → i < length places → ((d : Option (Portion A)) → get_or places i d ≢ None) → (d : Option (Portion A)) → get_or (place_shifts places shifts) i d ≢ None
  place_keeps places [] i inside filled d = filled d
  place_keeps places (s ∷ ss) i inside filled d =
      place_keeps (put_in places s.ran.items) ss i (let e = length-put_in places s.ran.items in omega arith) (put_keeps places s.ran.items i inside filled) d

  -- each leaf that some worker ran has its place filled
  place_fills : (places : List (Option (Portion A))) (shifts : List (Shift S A)) (j k : ℕ) (f : Shift S A) (e : Ran A) → All (λ s. All (λ r. r.leaf < length places) s.ran.items) shifts → j < length shifts → k < length (get_or shifts j f).ran.items
      → (d : Option (Portion A)) → get_or (place_shifts places shifts) (get_or (get_or shifts j f).ran.items k e).leaf d ≢ None
  place_fills places [] j k f e all within inside d = absurd (omega arith)
  place_fills places (s ∷ ss) zero k f e all within inside d =
      let P : Shift S A → Type 0 = λ t. All (λ r. r.leaf < length places) t.ran.items in
      let mine : All (λ r. r.leaf < length places) s.ran.items = All-head P s ss all in
      let size = length-put_in places s.ran.items in
      place_keeps (put_in places s.ran.items) ss (get_or s.ran.items k e).leaf (let at : (get_or s.ran.items k e).leaf < length places = mine k e inside in omega arith) (λ x. put_fills places s.ran.items k mine inside e x) d
  place_fills places (s ∷ ss) (suc j) k f e all within inside d =
      let P : Shift S A → Type 0 = λ t. All (λ r. r.leaf < length places) t.ran.items in
      let size = length-put_in places s.ran.items in
      place_fills (put_in places s.ran.items) ss j k f e (λ a x w b y v. let at : (get_or (get_or ss a x).ran.items b y).leaf < length places = All-tail P s ss all a x w b y v in omega arith) (omega arith) inside d

module _ {S A : Type 0} (work : Work A) (Is : S → Type 0) (number : S → ℕ) (status : S → ℕ → Status) (drained : S → Type 0) (made_cut : S → ℕ → Type 0) (seats : List S)
    (shifts : List (Shift S A)) (all : length shifts ≡ length seats)
    (each : (k : ℕ) (d : S) (e : Shift S A) → k < length seats → IsShift work Is number status made_cut (get_or seats k d) (get_or shifts k e))
    (ends : 0 < length seats → (f : Shift S A) → (get_or shifts 0 f).refused ≡ false → drained (get_or shifts 0 f).seat)
    (n : ℕ) (size : n ≡ work.leaves) (served : All (λ s. s.refused ≡ false) shifts)
    (back : List S) (back_is : back ≡ map (λ s. s.seat) shifts)
    (places : List (Option (Portion A))) (places_are : places ≡ place_shifts (replicate n None) shifts)
    (leaves : ℕ) (full : ℕ → ℕ) (board_need : Option ℕ) (case : IsCase work leaves full board_need)
    (recorded : ℕ) (count : ℕ → Option ℕ) (cut : Option ℕ) (closes : Closes leaves full board_need status drained made_cut back recorded count cut) where
  back_len : length back ≡ length shifts
  back_len = ap length back_is ∙ length-map shifts (λ s. s.seat)

  -- a seat that was handed back
  back_at : (j : ℕ) (d : S) (f : Shift S A) → j < length shifts → get_or back j d ≡ (get_or shifts j f).seat
  back_at j d f within = ap (λ xs. get_or xs j d) back_is ∙ get_or-map (λ s. s.seat) shifts j f d within

  within_places : All (λ s. All (λ r. r.leaf < length (replicate {A = Option (Portion A)} n None)) s.ran.items) shifts
  within_places k e within j d inside =
      let place = ((each k e.seat e (omega arith)).ran j d inside).place in
      let long : length (replicate {A = Option (Portion A)} n None) ≡ n = length-replicate n None in
      omega arith

  -- the cut's leaves are enough
  cut_enough : (c : ℕ) → cut ≡ Some c → Reaches work.needed (sum_below work.full (c + 1))
  cut_enough c is =
      let just = closes.justified c is in
      let same : sum_below full (c + 1) ≡ sum_below work.full (c + 1) = sum_below-same full work.full (c + 1) (λ i below. case.each i (let e = case.all in let l = just.0 in omega arith)) in
      subst (Reaches work.needed) same (subst (λ (r : Option ℕ). Reaches r (sum_below full (c + 1))) case.needs just.1)

  has_leaf : (i j : ℕ) (d : Option (Portion A)) (f : Shift S A) → j < length shifts → status (get_or shifts j f).seat i ≢ Unknown → (s : Status) → status (get_or shifts j f).seat i ≡ s
      → (get_or places i d ≢ None) ⊎ ((c : ℕ) × (c < i) × Reaches work.needed (sum_below work.full (c + 1)))
  has_leaf i j d f within known Unknown is = absurd (known is)
  has_leaf i j d f within known Given is = absurd (((each j f.seat f (omega arith)).kept (served j f within) i).0 is)
  has_leaf i j d f within known (Published m) is =
      let kept = ((each j f.seat f (omega arith)).kept (served j f within) i).1 m is in
      let e : Ran A = some_of (get_or shifts j f).ran.items kept.0 kept.1 in
      let filled : get_or (place_shifts (replicate n None) shifts) (get_or (get_or shifts j f).ran.items kept.0 e).leaf d ≢ None = place_fills (replicate n None) shifts j kept.0 f e within_places within kept.1 d in
      let P : ℕ → Type 0 = λ l. get_or (place_shifts (replicate n None) shifts) l d ≢ None in
      let Q : List (Option (Portion A)) → Type 0 = λ ps. get_or ps i d ≢ None in
      inl (subst Q (sym places_are) (subst P (kept.2 e).0 filled))
  has_leaf i j d f within known Skipped is =
      let told = closes.skipped i (j, (let b = back_len in omega arith), λ x. ap (λ s. status s i) (back_at j x f within) ∙ is) in
      inr (told.0, told.2, cut_enough told.0 told.1)

  -- where a leaf was given, and to whom
  given_to : (i : ℕ) → i < work.leaves → 0 < length seats → (j : ℕ) × (j < length shifts) × (f : Shift S A) × (status (get_or shifts j f).seat i ≢ Unknown)
  given_to i within some =
      let f : Shift S A = some_of shifts 0 (omega arith) in
      let b = back_len in
      let drained_first : (x : S) → drained (get_or back 0 x) = λ x. subst drained (sym (back_at 0 x f (omega arith))) (ends some f (served 0 f (omega arith))) in
      let given = closes.given 0 (omega arith) drained_first i (let e = case.all in omega arith) in
      let inside : given.0 < length shifts = (let w = given.1 in omega arith) in
      (given.0, inside, f, (λ e. given.2 f.seat (ap (λ s. status s i) (back_at given.0 f.seat f inside) ∙ e)))

  -- each place is filled, or the cut lies left of it
  pub all_filled : 0 < length seats → HasLeaves work places
  all_filled some i d within =
      let (j, inside, f, known) = given_to i within some in
      has_leaf i j d f inside known (status (get_or shifts j f).seat i) refl

  reported : (i j : ℕ) (f : Shift S A) → i < work.leaves → j < length shifts → status (get_or shifts j f).seat i ≢ Unknown → (s : Status) → status (get_or shifts j f).seat i ≡ s → Reported work.needed (work.full i) i (count i) cut
  reported i j f at within known Unknown is = absurd (known is)
  reported i j f at within known Given is = absurd (((each j f.seat f (omega arith)).kept (served j f within) i).0 is)
  reported i j f at within known (Published m) is =
      let kept = ((each j f.seat f (omega arith)).kept (served j f within) i).1 m is in
      let e : Ran A = some_of (get_or shifts j f).ran.items kept.0 kept.1 in
      let ran : IsRan work (get_or (get_or shifts j f).ran.items kept.0 e) = (each j f.seat f (omega arith)).ran kept.0 e kept.1 in
      let P : ℕ → Type 0 = λ l. IsLawful work.needed (work.full l) (get_or (get_or shifts j f).ran.items kept.0 e).portion.count in
      let Q : ℕ → Type 0 = λ n. IsLawful work.needed (work.full i) n in
      let told = (closes.counts i m (let c = case.all in omega arith)).1 (j, (let b = back_len in omega arith), λ x. ap (λ s. status s i) (back_at j x f within) ∙ is) in
      inl (m, told, subst Q (kept.2 e).1 (subst P (kept.2 e).0 ran.lawful))
  reported i j f at within known Skipped is =
      let told = closes.skipped i (j, (let b = back_len in omega arith), λ x. ap (λ s. status s i) (back_at j x f within) ∙ is) in
      inr (told.3, (told.0, told.1, told.2))

  -- what the record says
  pub all_reported : 0 < length seats → Reports work.needed work.leaves work.full recorded count cut
  all_reported some = record {
    all = closes.all ∙ case.all;
    each = λ i within.
        let (j, inside, f, known) = given_to i within some in
        reported i j f within inside known (status (get_or shifts j f).seat i) refl;
    justified = λ c is. ((let e = case.all in let l = (closes.justified c is).0 in omega arith), cut_enough c is);
    cut_found = λ i n at is reached.
        let (j, inside, as_published) = (closes.counts i n (let e = case.all in omega arith)).0 is in
        let within : j < length shifts = (let b = back_len in omega arith) in
        let f : Shift S A = some_of shifts j within in
        let shift = each j f.seat f (omega arith) in
        let published : status (get_or shifts j f).seat i ≡ Published n = ap (λ s. status s i) (sym (back_at j f.seat f within)) ∙ as_published f.seat in
        let (k, there, ran) = (shift.kept (served j f within) i).1 n published in
        let e : Ran A = some_of (get_or shifts j f).ran.items k there in
        let made : made_cut (get_or shifts j f).seat i = subst (made_cut (get_or shifts j f).seat) (ran e).0 (shift.cuts k e there (subst (Reaches work.needed) (sym (ran e).1) reached)) in
        closes.least j i inside (λ d. let P : S → Type 0 = λ s. made_cut s i in subst P (sym (back_at j d f within)) made);
  }
