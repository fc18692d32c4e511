-- What holds of a closed board.
use Rattle.std.proofs.Common.{◌≡◌, ◌≢◌, ℕ, zero, suc, ◌+◌, ◌*◌, ◌-◌, ◌<◌, ◌≤◌, List, [], ◌∷◌, length, drop, refl, sym, ap, ◌∙◌, subst, arith, Some, None, if◌then◌else◌}
use Rattle.std.specs.Prelude.{slice_index, Contains}
use mathlib.Core.Option.{some, some-ne-none, some-injective}
use mathlib.Core.Logic.{dite}
use native.Mathlib.Decide.{ℕ_discrete, dec_lt}
use lib.ListN.{get_elem?}
use Rattle.std.proofs.lemmas.Bool.{lt-ltb, le-ltb}
use Rattle.atomic_table.specs.Table.{State}
use Rattle.leaf_board.specs.Case.{BoardCase, IsJustified}
use Rattle.leaf_board.specs.Statuses.{Unknown, Skipped, Published}
use Rattle.leaf_board.specs.Knowledge.{Knowledge, status_of, WasGiven, entry}
use Rattle.leaf_board.specs.Rule.{cut_word, leaf_word, IsPublished, IsSkipped, Orderly}
use Rattle.leaf_board.specs.Seats.{Holder}
use Rattle.leaf_board.specs.Closing.{Outcome, outcome, cut_of, count_in, count_of, In, AreAll, Shows, IsRecordOf}
use Rattle.leaf_board.specs.declared.view.View.{View}
use Rattle.leaf_board.proofs.Shares.{in_share, distance-within}
use Rattle.leaf_board.proofs.Steps.{there}

get_or_drop : (l : List ℕ) (n i : ℕ) → slice_index (drop n l) i ≡ slice_index l (n + i)
get_or_drop l zero i = ap (slice_index l) (omega arith)
get_or_drop [] (suc n) i = refl
get_or_drop (x ∷ xs) (suc n) i = let e : suc (n + i) ≡ suc n + i = omega arith in subst (λ m. slice_index (drop n xs) i ≡ slice_index (x ∷ xs) m) e (get_or_drop xs n i)

some_count : (n count : ℕ) → count_in n ≡ Some count → n ≡ suc count
some_count zero count e = absurd (cc)
some_count (suc n) count e = cc

module _ (c : BoardCase) (s : State Unit View) (o : Orderly c s) (id : ℕ) (v : View) (at : get_elem? s.views id ≡ some v) (seats : List Holder) (shows : Shows v seats) (all : AreAll c seats) where
  abbrev pub r : Outcome
  r = outcome s.words c.leaves c.seats

  known : (x : Holder) → In seats x → (x.number < c.seats) × (o.know x.number ≡ x.knows)
  known x is = let e = shows is.0 x is.1 in let h = o.housed id v at e.0 (entry x.number x.knows) e.2 in (h.0, h.2)

  -- the seat of a number
  seat_of : (a : ℕ) → a < c.seats → (x : Holder) × In seats x × (o.know a ≡ x.knows)
  seat_of a below = let x = all a below in (x.0, x.1, ap o.know (sym x.2) ∙ (known x.0 x.1).1)

  word_is : (leaf : ℕ) → slice_index r.counts leaf ≡ leaf_word c s.words leaf
  word_is leaf = get_or_drop s.words (8 * (1 + c.seats)) leaf

  cut_is : cut_word s.words < c.leaves → cut_of r ≡ Some (cut_word s.words)
  cut_is less = ap (λ b. if b then Some (cut_word s.words) else None) (lt-ltb (cut_word s.words) c.leaves less)

  cut_means : (cut : ℕ) → cut_of r ≡ Some cut → (cut_word s.words < c.leaves) × (cut_word s.words ≡ cut)
  cut_means cut e =
      dite (dec_lt (cut_word s.words) c.leaves)
      (λ less. let f = sym (cut_is less) ∙ e in (less, cc))
      (λ not_less. absurd (let f = sym (ap (λ b. if b then Some (cut_word s.words) else None) (le-ltb (cut_word s.words) c.leaves (omega arith))) ∙ e in cc))

  given_below : (x : Holder) (leaf : ℕ) → In seats x → WasGiven x.knows leaf → leaf < c.leaves
  given_below x leaf is g =
      let k = known x is in
      let f = o.sound.fits x.number k.0 in
      let below = there x.knows.leaves leaf Unknown g in
      let sized : length x.knows.leaves ≡ c.leaves = subst (λ (y : Knowledge). length y.leaves ≡ c.leaves) k.1 f.all_leaves in
      omega arith

  pub closes : IsRecordOf c seats r
  closes = record {
    leaves = refl;
    once = λ j k leaf x y is_x is_y g h.
        let kx = known x (j, is_x) in let ky = known y (k, is_y) in
        let same = o.sound.once x.number y.number leaf kx.0 ky.0 (subst (λ z. WasGiven z leaf) (sym kx.1) g) (subst (λ z. WasGiven z leaf) (sym ky.1) h) in
        let at_x = shows j x is_x in let at_y = shows k y is_y in
        let place = o.apart id v at at_x.0 at_y.0 (entry x.number x.knows) (entry y.number y.knows) at_x.2 at_y.2 same in
        omega (arith, at_x.1, at_y.1);
    drained = λ x is drained leaf below.
        let k = known x is in
        let w = in_share c leaf (omega arith) below in
        let f = o.sound.fits x.number k.0 in
        let d = distance-within c x.number w.0 k.0 w.1 in
        let p : (o.know x.number).passed ≡ c.seats = ap (λ (z : Knowledge). z.passed) k.1 ∙ drained in
        let e = f.emptied w.0 w.1 (omega arith) in
        let g = o.sound.given w.0 leaf w.1 w.2 w.3 (omega arith) in
        let t = seat_of g.0 g.1 in
        (t.0, t.1, subst (λ z. WasGiven z leaf) t.2 g.2);
    published = λ leaf count below e.
        let n : leaf_word c s.words leaf ≡ suc count = sym (word_is leaf) ∙ some_count (slice_index r.counts leaf) count e in
        let g = o.sound.by_one leaf below (λ z. absurd (omega arith)) in
        let t = seat_of g.0 g.1 in
        let w = ((o.sound.fits g.0 g.1).written leaf g.2 g.3).0 in
        let same : g.2 ≡ count = omega arith in
        (t.0, t.1, subst (λ z. IsPublished z leaf count) t.2 (subst (λ m. IsPublished (o.know g.0) leaf m) same g.3));
    counted = λ x leaf count is p.
        let k = known x is in
        let w = ((o.sound.fits x.number k.0).written leaf count (subst (λ z. IsPublished z leaf count) (sym k.1) p)).0 in
        (given_below x leaf is (λ e. let z : Published count ≡ Unknown = sym p ∙ e in cc), ap count_in (word_is leaf ∙ w));
    cut_made = λ cut e.
        let m = cut_means cut e in
        let g = o.sound.cut_made m.0 in
        let t = seat_of g.0 g.1 in
        (subst (IsJustified c) m.1 (o.sound.cut_justified m.0), (t.0, t.1, subst (λ n. Contains t.0.knows.cuts n) m.1 (subst (λ (z : Knowledge). Contains z.cuts (cut_word s.words)) t.2 g.2)));
    cut_least = λ x cut is h.
        let k = known x is in
        let f = o.sound.fits x.number k.0 in
        let own = f.own_cuts cut (subst (λ (z : Knowledge). Contains z.cuts cut) (sym k.1) h) in
        let low = f.least_known in
        (cut_word s.words, cut_is (omega arith), omega arith);
    cut_known = λ x is knows.
        let k = known x is in
        let low = subst (λ (z : Knowledge). cut_word s.words ≤ z.least) k.1 (o.sound.fits x.number k.0).least_known in
        (cut_word s.words, cut_is (omega arith), low);
    count_known = λ x leaf count is knows.
        let k = known x is in
        let f = o.sound.fits x.number k.0 in
        let some : slice_index x.knows.counts leaf ≢ 0 = λ e. absurd (omega arith) in
        let word = subst (λ (z : Knowledge). slice_index z.counts leaf ≢ 0 → leaf_word c s.words leaf ≡ slice_index z.counts leaf) k.1 (f.known leaf) some in
        let sized = subst (λ (z : Knowledge). length z.counts ≡ c.leaves) k.1 f.all_counts in
        let within = there x.knows.counts leaf 0 some in
        let next : count + 1 ≡ suc count = omega arith in
        (omega arith, ap count_in (word_is leaf ∙ word ∙ knows ∙ next));
    skipped = λ x leaf is p.
        let k = known x is in
        let f = o.sound.fits x.number k.0 in
        let right = f.right_of_cut leaf (subst (λ z. IsSkipped z leaf) (sym k.1) p) in
        let low = f.least_known in
        let below = given_below x leaf is (λ e. let z : Skipped ≡ Unknown = sym p ∙ e in cc) in
        (cut_word s.words, cut_is (omega arith), omega arith, ap count_in (word_is leaf ∙ unwritten x leaf is p below));
  }
    where
      unwritten : (x : Holder) (leaf : ℕ) → In seats x → IsSkipped x.knows leaf → leaf < c.leaves → leaf_word c s.words leaf ≡ 0
      unwritten x leaf is p below =
          dite (ℕ_discrete (leaf_word c s.words leaf) 0)
          (λ zero_word. zero_word)
          (λ written.
          let k = known x is in
          let g = o.sound.by_one leaf below written in
          let mine : status_of (o.know x.number) leaf ≡ Skipped = subst (λ z. IsSkipped z leaf) (sym k.1) p in
          let same = o.sound.once g.0 x.number leaf g.1 k.0 (λ e. let z : Published g.2 ≡ Unknown = sym g.3 ∙ e in cc) (λ e. let z : Skipped ≡ Unknown = sym mine ∙ e in cc) in
          absurd (let z : Published g.2 ≡ Skipped = sym g.3 ∙ ap (λ a. status_of (o.know a) leaf) same ∙ mine in cc))

-- a leaf's count is that of its word
at_get_or : (l : List ℕ) (i w : ℕ) → get_elem? l i ≡ some w → slice_index l i ≡ w
at_get_or [] i w e = absurd (some-ne-none w (sym e))
at_get_or (x ∷ xs) zero w e = some-injective x w e
at_get_or (x ∷ xs) (suc i) w e = at_get_or xs i w e

pub count_word : (words : List ℕ) (leaves seats leaf w : ℕ) → get_elem? words (8 * (1 + seats) + leaf) ≡ some w → count_of (outcome words leaves seats) leaf ≡ count_in w
count_word words leaves seats leaf w e = ap count_in (get_or_drop words (8 * (1 + seats)) leaf ∙ at_get_or words (8 * (1 + seats) + leaf) w e)

pub no_count : (w : ℕ) → w ≡ 0 → count_in w ≡ None
no_count w e = ap count_in e

pub a_count : (w : ℕ) → w ≢ 0 → count_in w ≡ Some (w - 1)
a_count zero ne = absurd (ne refl)
a_count (suc n) ne = ap Some (omega arith)
