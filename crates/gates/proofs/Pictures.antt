-- The marks and lines of a picture, one after another.
use Rattle.std.proofs.Common.{length, drop, get_or, append_assoc, append-nil, ◌≡◌, ◌<◌, ◌≤◌, ◌+◌, ◌*◌, ◌-◌, ◌++◌, ◌∙◌, ℕ, zero, suc, Bool, true, false, ◌&&◌, List, [], min, ap, sym, refl, arith}
use Rattle.std.proofs.lemmas.List.{drop_more}
use Rattle.std.proofs.lemmas.Grind.{div_ceil_times}
use Rattle.std.proofs.Math.Nat.{suc-mul}
use Rattle.std.specs.Int.{div_ceil}
use Rattle.leaf_board.specs.Closing.{Outcome}
use Rattle.gates.specs.Pictures.{each_from, marked, marks, row, line, lines}

each_step : (such : ℕ → Bool) (leaf end : ℕ) → leaf < end → each_from such leaf (end - leaf) ≡ (such leaf && each_from such (leaf + 1) (end - (leaf + 1)))
each_step such leaf end below = let number : end - leaf ≡ suc (end - (leaf + 1)) = omega (arith, below) in ap (each_from such leaf) number

and_assoc : (so_far answer rest : Bool) → ((so_far && answer) && rest) ≡ (so_far && (answer && rest))
and_assoc false answer rest = refl
and_assoc true answer rest = refl

-- what was asked so far, with the answer of the next leaf
pub each_next : (such : ℕ → Bool) (so_far answer whole : Bool) (leaf end : ℕ) → leaf < end → answer ≡ such leaf → (so_far && each_from such leaf (end - leaf)) ≡ whole
    → ((so_far && answer) && each_from such (leaf + 1) (end - (leaf + 1))) ≡ whole
each_next such so_far answer whole leaf end below answer_is is =
    and_assoc so_far answer (each_from such (leaf + 1) (end - (leaf + 1))) ∙ ap (λ b. so_far && (b && each_from such (leaf + 1) (end - (leaf + 1)))) answer_is
    ∙ ap (λ b. so_far && b) (sym (each_step such leaf end below)) ∙ is

-- What is to be written behind what was: so many marks from a leaf on, which are just enough for the leaves behind `begin`
pub record AreLeft (run : Outcome) (size begin : ℕ) (done whole : List ℕ) : Type 0 where
  pub first : ℕ
  pub number : ℕ
  pub begins : begin ≡ min first run.leaves
  pub enough : run.leaves ≤ first + number * size
  pub needed : first + number * size < run.leaves + size
  pub text : done ++ marks run size first number ≡ whole

module _ (run : Outcome) (size begin : ℕ) (done whole : List ℕ) where
  -- some are left as long as there are leaves
  next_left : (end first number : ℕ) (now : List ℕ) → begin < run.leaves → end ≡ min (begin + size) run.leaves → now ≡ marked run begin end → begin ≡ min first run.leaves
      → run.leaves ≤ first + number * size → first + number * size < run.leaves + size → done ++ marks run size first number ≡ whole → AreLeft run size end (done ++ now) whole
  next_left end first zero now below end_is now_is begins enough needed text = absurd (omega (arith, below, begins, enough))
  next_left end first (suc more) now below end_is now_is begins enough needed text =
      let product = suc-mul more size in
      let here : begin ≡ first = omega (arith, below, begins) in
      let there : end ≡ min (first + size) run.leaves = omega (arith, here, end_is) in
      let same : now ≡ marked run first (min (first + size) run.leaves) = now_is ∙ ap (λ b. marked run b end) here ∙ ap (marked run first) there in
      record {
        first = first + size;
        number = more;
        begins = there;
        enough = omega (arith, product, enough);
        needed = omega (arith, product, needed);
        text = append_assoc done now (marks run size (first + size) more) ∙ ap (λ l. done ++ (l ++ marks run size (first + size) more)) same ∙ text;
      }

  pub left_behind : (end : ℕ) (now : List ℕ) → begin < run.leaves → end ≡ min (begin + size) run.leaves → now ≡ marked run begin end
      → AreLeft run size begin done whole → AreLeft run size end (done ++ now) whole
  left_behind end now below end_is now_is left = next_left end left.first left.number now below end_is now_is left.begins left.enough left.needed left.text

  -- and none are where there are no more
  nothing_left : (first number : ℕ) → run.leaves ≤ begin → begin ≡ min first run.leaves → first + number * size < run.leaves + size → done ++ marks run size first number ≡ whole → done ≡ whole
  nothing_left first zero past begins needed text = sym (append-nil done) ∙ text
  nothing_left first (suc more) past begins needed text = let product = suc-mul more size in absurd (omega (arith, past, begins, needed, product))

  pub none_left : run.leaves ≤ begin → AreLeft run size begin done whole → done ≡ whole
  none_left past left = nothing_left left.first left.number past left.begins left.needed left.text

-- all marks of a row are left at first
pub all_left : (run : Outcome) (size : ℕ) → 0 < size → AreLeft run size 0 [] (row run size)
all_left run size some =
    let bounds = div_ceil_times run.leaves size some in
    record { first = 0; number = div_ceil run.leaves size; begins = omega arith; enough = omega (arith, bounds.0); needed = omega (arith, bounds.1); text = refl }

-- the first line, and those behind it
pub lines_next : (runs : List Outcome) (place : ℕ) (d : Outcome) (done first whole : List ℕ) → place < length runs → first ≡ line (place + 1) (get_or runs place d)
    → done ++ lines (place + 1) (drop place runs) ≡ whole → done ++ first ++ lines (place + 1 + 1) (drop (place + 1) runs) ≡ whole
lines_next runs place d done first whole within first_is is =
    append_assoc done first (lines (place + 1 + 1) (drop (place + 1) runs)) ∙ ap (λ l. done ++ (l ++ lines (place + 1 + 1) (drop (place + 1) runs))) first_is
    ∙ ap (λ l. done ++ lines (place + 1) l) (sym (drop_more runs place d within)) ∙ is
