-- The sum of the known counts, look by look.
use Rattle.std.proofs.Common.{Some, ◌≡◌, ◌≢◌, ℕ, suc, ◌+◌, ◌-◌, ◌<◌, ◌≤◌, List, set, min, sym, ap, ◌∙◌, subst, arith}
use Rattle.std.specs.Prelude.{slice_index}
use mathlib.Core.Logic.{dite}
use native.Mathlib.Decide.{ℕ_discrete, dec_lt}
use Rattle.std.proofs.lemmas.List.{get_or-set_other, set-get_or}
use Rattle.leaf_board.specs.Case.{BoardCase, sum_below, sum_to}
use Rattle.leaf_board.specs.Knowledge.{Knowledge, known_count, KnowsEnough, FirstEnough, after_look, after_cut}
use Rattle.leaf_board.specs.Seats.{OnlyLooks}
use Rattle.barriers.specs.Needs.{Reaches}
use Rattle.leaf_board.proofs.Sums.{sum_below-same}

pub enough_is : (c : BoardCase) (r n : ℕ) → c.need ≡ Some r → r ≤ n → Reaches c.need n
enough_is c r n e le = subst (λ need. Reaches need n) (sym e) le

pub enough_means : (c : BoardCase) (r n : ℕ) → c.need ≡ Some r → Reaches c.need n → r ≤ n
enough_means c r n e h = subst (λ need. Reaches need n) e h

-- a look changes one known count
pub known_else : (k : Knowledge) (leaf word j : ℕ) → j ≢ leaf → known_count (after_look k leaf word) j ≡ known_count k j
known_else k leaf word j ne = ap (λ (n : ℕ). n - 1) (get_or-set_other k.counts leaf j word 0 ne)

pub sums_before : (k : Knowledge) (leaf word n : ℕ) → n ≤ leaf → sum_below (known_count (after_look k leaf word)) n ≡ sum_below (known_count k) n
sums_before k leaf word n le = sum_below-same (known_count (after_look k leaf word)) (known_count k) n (λ i less. known_else k leaf word i (λ e. omega arith))

-- the sum after one more look
pub sum_turn : (k next : Knowledge) (at word sum now : ℕ) → next ≡ after_look k at word → known_count next at ≡ word - 1 → sum ≡ min (sum_below (known_count k) at) 18446744073709551615 → now ≡ min (sum + (word - 1)) 18446744073709551615
    → now ≡ min (sum_to (known_count next) at) 18446744073709551615
sum_turn k next at word sum now is count e f =
    let b : sum_below (known_count next) at ≡ sum_below (known_count k) at = ap (λ (x : Knowledge). sum_below (known_count x) at) is ∙ sums_before k at word at (omega arith) in
    omega arith

-- no earlier place is enough, after the look
pub none_before : (c : BoardCase) (k next : Knowledge) (at word : ℕ) → next ≡ after_look k at word → ((p : ℕ) → p < at → ¬ KnowsEnough c k p) → (p : ℕ) → p < at → ¬ KnowsEnough c next p
none_before c k next at word is none p less enough = none p less (subst (Reaches c.need) (ap (λ (x : Knowledge). sum_to (known_count x) p) is ∙ sums_before k at word (suc p) (omega arith)) enough)

pub none_more : (c : BoardCase) (next : Knowledge) (at : ℕ) → ((p : ℕ) → p < at → ¬ KnowsEnough c next p) → ¬ KnowsEnough c next at → (p : ℕ) → p < at + 1 → ¬ KnowsEnough c next p
none_more c next at none here p less enough = dite (ℕ_discrete p at) (λ e. here (subst (KnowsEnough c next) e enough)) (λ ne. none p (omega arith) enough)

-- what looks leave, one more look
pub looks_turn : (k was next : Knowledge) (at word : ℕ) → OnlyLooks k was → next ≡ after_look was at word → (slice_index was.counts at ≢ 0 → word ≡ slice_index was.counts at) → OnlyLooks k next
looks_turn k was next at word o is stays = subst (OnlyLooks k) (sym is) (record {
  leaves = o.leaves;
  passed = o.passed;
  draws = o.draws;
  publishes = o.publishes;
  reads = o.reads;
  known = λ leaf some. look_known was.counts at word leaf stays (λ z. some (sym (o.known leaf some) ∙ z)) ∙ o.known leaf some;
})
  where
    look_known : (counts : List ℕ) (at word leaf : ℕ) → (slice_index counts at ≢ 0 → word ≡ slice_index counts at) → slice_index counts leaf ≢ 0 → slice_index (set counts at word) leaf ≡ slice_index counts leaf
    look_known counts at word leaf stays some =
        dite (ℕ_discrete leaf at)
        (λ e.
        let known : slice_index counts at ≢ 0 = λ z. some (ap (slice_index counts) e ∙ z) in
        ap (λ l. slice_index l leaf) (ap (set counts at) (stays known) ∙ set-get_or counts at 0))
        (λ ne. get_or-set_other counts at leaf word 0 ne)

-- a cut changes no known count
pub first_after_cut : (c : BoardCase) (k after : Knowledge) (at found : ℕ) → after ≡ after_cut k at found → KnowsEnough c k at → ((p : ℕ) → p < at → ¬ KnowsEnough c k p) → FirstEnough c after at
first_after_cut c k after at found is enough none = subst (λ x. FirstEnough c x at) (sym is) (enough, none)

-- the first enough place is at or right of the one cut
pub first_least : (c : BoardCase) (after : Knowledge) (at p : ℕ) → after.least ≤ at → FirstEnough c after at → FirstEnough c after p → after.least ≤ p
first_least c after at p le here there = dite (dec_lt p at) (λ less. absurd (here.1 p less there.0)) (λ not_less. omega arith)
