-- What each step owes the table, at the view of a seat in use.
use Rattle.std.proofs.Common.{◌≡◌, ◌≢◌, ℕ, ◌+◌, ◌-◌, ◌%◌, ◌^◌, ◌<◌, ◌≤◌, List, set, get_or, min, refl, sym, ap, subst, arith, nat_lt, if◌then◌else◌}
use Rattle.std.specs.Prelude.{slice_index}
use mathlib.Core.Option.{none}
use mathlib.Core.Logic.{dite}
use native.Mathlib.Decide.{dec_lt}
use Rattle.std.proofs.lemmas.List.{set-get_or}
use Rattle.std.proofs.Math.Nat.{mod-eq_of_lt}
use Rattle.std.proofs.lemmas.Bool.{lt-ltb, le-ltb}
use Rattle.atomic_table.specs.Table.{step, Allows}
use Rattle.leaf_board.specs.Case.{BoardCase, IsJustified, IsLawful, share_end, ring}
use Rattle.leaf_board.specs.Statuses.{Unknown}
use Rattle.leaf_board.specs.Knowledge.{Knowledge, Entry, entry, IsHeld, KnowsEnough, after_leaf, after_empty, after_publish, after_look, after_cut, after_read, after_skip, status_of}
use Rattle.leaf_board.specs.Rule.{Sound, Orderly, ticket_place, leaf_place}
use Rattle.leaf_board.specs.Plays.{Sat, sat, Tells, draws, publishes, looks, cuts, reads, skips}
use Rattle.leaf_board.proofs.Sums.{put}
use Rattle.leaf_board.proofs.Frame.{step_allowed}
use Rattle.leaf_board.proofs.Steps.{read_sound, look_sound, cut_sound, publish_sound, skip_sound, justified}
use Rattle.leaf_board.proofs.Drawing.{leaf_sound, empty_sound, ticket_small, few_draws, within, was_away}

-- what is told of the seat as it was is told of it as `sat` shows it
tells : (number : ℕ) (k next : Knowledge) (after : ℕ → Knowledge → Knowledge) (told : ℕ → Knowledge → Type 0) → next ≡ after number k → told number k → Tells (sat number k) (sat number next) after told
tells number k next after told is t number' k' same =
    subst (λ (e : Entry). (sat number next ≡ sat e.number (after e.number e.knows)) × told e.number e.knows)
    (ap (λ (m : Sat). get_or m.0.entries 0 (entry number k)) same)
    (ap (sat number) is, t)

module _ (c : BoardCase) (slots id number : ℕ) (k : Knowledge) where
  pub look_allowed : (leaf : ℕ) → leaf < c.leaves → Allows (Orderly c) slots id (sat number k) (leaf_place c leaf) (λ n. n) (looks c (step slots (leaf_place c leaf) 0 0 none) (sat number k))
  look_allowed leaf at =
      step_allowed c slots id number k (leaf_place c leaf) (λ n. n) (λ found. after_look k leaf found) (looks c (step slots (leaf_place c leaf) 0 0 none) (sat number k))
      (λ words know s below is small. (
        subst (λ ws. Sound c ws (put know number (after_look k leaf (slice_index words (leaf_place c leaf))))) (sym (set-get_or words (leaf_place c leaf) 0))
            (subst (λ x. Sound c words (put know number (after_look x leaf (slice_index words (leaf_place c leaf))))) is (look_sound c words know number leaf below at s)),
        tells number k (after_look k leaf (slice_index words (leaf_place c leaf))) (λ _ x. after_look x (leaf_place c leaf - leaf_place c 0) (slice_index words (leaf_place c leaf))) (λ _ x. slice_index x.counts (leaf_place c leaf - leaf_place c 0) ≢ 0 → slice_index words (leaf_place c leaf) ≡ slice_index x.counts (leaf_place c leaf - leaf_place c 0))
            (ap (λ i. after_look k i (slice_index words (leaf_place c leaf))) (omega arith))
            (let e : leaf ≡ leaf_place c leaf - leaf_place c 0 = omega arith in
            subst (λ i. slice_index k.counts i ≢ 0 → slice_index words (leaf_place c leaf) ≡ slice_index k.counts i) e
            (subst (λ (x : Knowledge). slice_index x.counts leaf ≢ 0 → slice_index words (leaf_place c leaf) ≡ slice_index x.counts leaf) is ((s.fits number below).known leaf))),
      ))

  pub read_allowed : Allows (Orderly c) slots id (sat number k) 0 (λ n. n) (reads c (step slots 0 0 0 none) (sat number k))
  read_allowed =
      step_allowed c slots id number k 0 (λ n. n) (λ found. after_read k found) (reads c (step slots 0 0 0 none) (sat number k))
      (λ words know s below is small. (
        subst (λ ws. Sound c ws (put know number (after_read k (slice_index words 0)))) (sym (set-get_or words 0 0))
            (subst (λ x. Sound c words (put know number (after_read x (slice_index words 0)))) is (read_sound c words know number below s)),
        tells number k (after_read k (slice_index words 0)) (λ _ x. after_read x (slice_index words 0)) (λ _ x. (slice_index words 0 ≤ x.least) × (slice_index words 0 < c.leaves → IsJustified c (slice_index words 0))) refl
            (subst (λ (x : Knowledge). slice_index words 0 ≤ x.least) is (s.fits number below).least_known, s.cut_justified),
      ))

  pub skip_allowed : (leaf : ℕ) → IsHeld k leaf → Allows (Orderly c) slots id (sat number k) 0 (λ n. n) (skips c leaf (step slots 0 0 0 none) (sat number k))
  skip_allowed leaf held =
      step_allowed c slots id number k 0 (λ n. n) (λ found. after_skip k leaf found) (skips c leaf (step slots 0 0 0 none) (sat number k))
      (λ words know s below is small. (
        subst (λ ws. Sound c ws (put know number (after_skip k leaf (slice_index words 0)))) (sym (set-get_or words 0 0))
            (subst (λ x. Sound c words (put know number (after_skip x leaf (slice_index words 0)))) is (skip_sound c words know number leaf below s (subst (λ x. IsHeld x leaf) (sym is) held))),
        tells number k (after_skip k leaf (slice_index words 0)) (λ _ x. after_skip x leaf (slice_index words 0)) (λ _ x. (slice_index words 0 ≤ x.least) × (slice_index words 0 < c.leaves → IsJustified c (slice_index words 0))) refl
            (subst (λ (x : Knowledge). slice_index words 0 ≤ x.least) is (s.fits number below).least_known, s.cut_justified),
      ))

  pub cut_allowed : (cut : ℕ) → cut < c.leaves → KnowsEnough c k cut → Allows (Orderly c) slots id (sat number k) 0 (λ n. min n cut) (cuts c (step slots 0 cut 0 none) (sat number k))
  cut_allowed cut at enough =
      step_allowed c slots id number k 0 (λ n. min n cut) (λ found. after_cut k cut found) (cuts c (step slots 0 cut 0 none) (sat number k))
      (λ words know s below is small.
      let just = justified c words know number cut below at s (subst (λ x. KnowsEnough c x cut) (sym is) enough) in (
        subst (λ x. Sound c (set words 0 (min (slice_index words 0) cut)) (put know number (after_cut x cut (slice_index words 0)))) is (cut_sound c words know number cut below s just),
        tells number k (after_cut k cut (slice_index words 0)) (λ _ x. after_cut x cut (slice_index words 0)) (λ _ _. IsJustified c cut) refl just,
      ))

  pub publish_allowed : (leaf count : ℕ) → IsHeld k leaf → IsLawful c.need (c.full leaf) count
      → Allows (Orderly c) slots id (sat number k) (leaf_place c leaf) (λ _. count + 1) (publishes c (step slots (leaf_place c leaf) (count + 1) 0 none) (sat number k))
  publish_allowed leaf count held lawful =
      step_allowed c slots id number k (leaf_place c leaf) (λ _. count + 1) (λ _. after_publish k leaf count) (publishes c (step slots (leaf_place c leaf) (count + 1) 0 none) (sat number k))
      (λ words know s below is small. (
        subst (λ x. Sound c (set words (leaf_place c leaf) (count + 1)) (put know number (after_publish x leaf count))) is (publish_sound c words know number leaf count below s (subst (λ x. IsHeld x leaf) (sym is) held) lawful),
        tells number k (after_publish k leaf count) (λ _ x. after_publish x (leaf_place c leaf - leaf_place c 0) (count + 1 - 1)) (λ _ _. Unit {0})
            ((let e : leaf ≡ leaf_place c leaf - leaf_place c 0 = omega arith in let d : count ≡ count + 1 - 1 = omega arith in λ i. after_publish k (e i) (d i))) tt,
      ))

-- what a draw step of this number leaves, and what it tells
abbrev pub draw_next : BoardCase → ℕ → Knowledge → ℕ → Knowledge
draw_next c number k found = if nat_lt found (share_end c (ring c number k.passed)) then after_leaf k found else after_empty k

abbrev pub draw_told : BoardCase → ℕ → Knowledge → ℕ → Type 0
draw_told c number k found = (k.draws < c.leaves + c.seats) × (found < share_end c (ring c number k.passed) → (found < c.leaves) × (status_of k found ≡ Unknown))

-- the ticket at which the number stands
abbrev pub draw_place : BoardCase → ℕ → Knowledge → ℕ
draw_place c number k = ticket_place (ring c number k.passed)

abbrev pub Drawn : BoardCase → List ℕ → (ℕ → Knowledge) → ℕ → Knowledge → Type 0
Drawn c words know number k =
    let found : ℕ = slice_index words (draw_place c number k) in
    Sound c (set words (draw_place c number k) ((found + 1) % 2 ^ 64)) (put know number (draw_next c number k found)) × draw_told c number k found

draw_sound : (c : BoardCase) (words : List ℕ) (know : ℕ → Knowledge) (a : ℕ) → a < c.seats → Sound c words know → c.leaves + c.seats < 2 ^ 63 → (know a).passed < c.seats → Drawn c words know a (know a)
draw_sound c words know a below s small more =
    let k = know a in
    let place : ℕ = draw_place c a k in
    let found : ℕ = slice_index words place in
    let bound : found ≤ c.leaves + c.seats = ticket_small c words know a below s more in
    let no_wrap : found + 1 ≡ (found + 1) % 2 ^ 64 = sym (mod-eq_of_lt (omega arith)) in
    let few = few_draws c words know a below s more in
    dite (dec_lt found (share_end c (ring c a k.passed)))
    (λ low. (
      subst (λ n. Sound c (set words place n) (put know a (draw_next c a k found))) no_wrap
          (subst (λ b. Sound c (set words place (found + 1)) (put know a (if b then after_leaf k found else after_empty k))) (sym (lt-ltb found (share_end c (ring c a k.passed)) low)) (leaf_sound c words know a below s more low)),
      (few, λ _. (within c words know a below s more low, was_away c words know a below s more low)),
    ))
    (λ past. (
      subst (λ n. Sound c (set words place n) (put know a (draw_next c a k found))) no_wrap
          (subst (λ b. Sound c (set words place (found + 1)) (put know a (if b then after_leaf k found else after_empty k))) (sym (le-ltb found (share_end c (ring c a k.passed)) (omega arith))) (empty_sound c words know a below s more (omega arith))),
      (few, λ low. absurd (omega arith)),
    ))

pub draw_allowed : (c : BoardCase) (slots id number : ℕ) (k : Knowledge) → c.leaves + c.seats < 2 ^ 63 → k.passed < c.seats
    → Allows (Orderly c) slots id (sat number k) (draw_place c number k) (λ n. (n + 1) % 2 ^ 64) (draws c (step slots (draw_place c number k) 1 0 none) (sat number k))
draw_allowed c slots id number k small more =
    step_allowed c slots id number k (draw_place c number k) (λ n. (n + 1) % 2 ^ 64) (draw_next c number k) (draws c (step slots (draw_place c number k) 1 0 none) (sat number k))
    (λ words know s below is _.
    let r = subst (λ x. Drawn c words know number x) is (draw_sound c words know number below s small (subst (λ (x : Knowledge). x.passed < c.seats) (sym is) more)) in
    let found : ℕ = slice_index words (draw_place c number k) in
    (r.0, tells number k (draw_next c number k found) (λ a x. draw_next c a x found) (λ a x. draw_told c a x found) refl r.1))
