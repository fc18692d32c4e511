use Rattle.std.proofs.Common.{◌^◌, ℕ, ◌≡◌, ◌+◌, min, inl, arith, rules, ap, sym, ◌∙◌, subst, suc, List, ◌∷◌}
use Rattle.leaf_board.specs.Case.{sum_to, sum_below}
use Rattle.leaf_board.specs.Knowledge.{Knowledge, known_count}
use Rattle.barriers.specs.Needs.{need_of, IsBelow}
use Rattle.leaf_board.specs.Seats.{Settles}
use Rattle.leaf_board.proofs.Settle.{enough_is, enough_means, sum_turn, none_before, none_more, looks_turn, first_after_cut, first_least}
use Rattle.leaf_board.proofs.board.Board.settle.Goals as goal

pub cut-requires-clause-enough : goal.cut-requires-clause-enough
cut-requires-clause-enough g c =
    let e = sym c.self.invariant.3 ∙ ap need_of c.in-Reach.is in
    let s = sum_turn c.loop-at.seat.knows c.look-word.new.seat.knows c.loop-at.at c.look-word.result c.loop-at.sum c.add-sum.result c.look-word.ensures.knows c.look-word.ensures.count c.loop-at.invariant.sum (omega arith) in
    (omega arith, enough_is g.C.Case.case c.in-Reach.need (sum_to (known_count c.look-word.new.seat.knows) c.loop-at.at) e (omega arith))

pub returns-then-sum-need-clause-settles : goal.returns-then-sum-need-clause-settles
returns-then-sum-need-clause-settles g c =
    let e = sym c.self.invariant.3 ∙ ap need_of c.in-Reach.is in
    let s = sum_turn c.loop-at.seat.knows c.look-word.new.seat.knows c.loop-at.at c.look-word.result c.loop-at.sum c.add-sum.result c.look-word.ensures.knows c.look-word.ensures.count c.loop-at.invariant.sum (omega arith) in
    let enough = enough_is g.C.Case.case c.in-Reach.need (sum_to (known_count c.look-word.new.seat.knows) c.loop-at.at) e (omega arith) in
    let none = none_before g.C.Case.case c.loop-at.seat.knows c.look-word.new.seat.knows c.loop-at.at c.look-word.result c.look-word.ensures.knows c.loop-at.invariant.none in
    let knows = c.look-word.ensures.knows in
    let cut = c.cut.ensures.knows.1 in
    let looks : c.cut.new.seat.knows.looks ≡ c.look-word.new.seat.knows.looks = ap (λ (k : Knowledge). k.looks) cut in
    let least : c.cut.new.seat.knows.least ≡ min c.cut.ensures.knows.0 c.loop-at.at = ap (λ (k : Knowledge). k.least) cut in
    let one : c.look-word.new.seat.knows.looks ≡ c.loop-at.seat.knows.looks + 1 = ap (λ (k : Knowledge). k.looks) knows in
    subst (λ n. Settles n g.C.Case.case c.args.seat.now.knows c.args.leaf c.cut.new.seat.knows) (sym e)
    (inl (
      c.loop-at.at,
      record {
        within = omega arith;
        first = first_after_cut g.C.Case.case c.look-word.new.seat.knows c.cut.new.seat.knows c.loop-at.at c.cut.ensures.knows.0 cut enough none;
        justified = c.cut.ensures.justified;
        cuts = ap (λ (k : Knowledge). k.cuts) cut ∙ ap (λ (l : List ℕ). c.loop-at.at ∷ l) (ap (λ (k : Knowledge). k.cuts) knows ∙ c.loop-at.invariant.cuts);
        least = omega arith;
        looks = (let i = c.loop-at.invariant.looks in omega arith);
      },
    ))

pub returns-then-sum-need-clause-first : goal.returns-then-sum-need-clause-first
returns-then-sum-need-clause-first g c p le there =
    let e = sym c.self.invariant.3 ∙ ap need_of c.in-Reach.is in
    let s = sum_turn c.loop-at.seat.knows c.look-word.new.seat.knows c.loop-at.at c.look-word.result c.loop-at.sum c.add-sum.result c.look-word.ensures.knows c.look-word.ensures.count c.loop-at.invariant.sum (omega arith) in
    let enough = enough_is g.C.Case.case c.in-Reach.need (sum_to (known_count c.look-word.new.seat.knows) c.loop-at.at) e (omega arith) in
    let none = none_before g.C.Case.case c.loop-at.seat.knows c.look-word.new.seat.knows c.loop-at.at c.look-word.result c.look-word.ensures.knows c.loop-at.invariant.none in
    let cut = c.cut.ensures.knows.1 in
    let least : c.cut.new.seat.knows.least ≡ min c.cut.ensures.knows.0 c.loop-at.at = ap (λ (k : Knowledge). k.least) cut in
    first_least g.C.Case.case c.cut.new.seat.knows c.loop-at.at p (omega arith) (first_after_cut g.C.Case.case c.look-word.new.seat.knows c.cut.new.seat.knows c.loop-at.at c.cut.ensures.knows.0 cut enough none) there

pub loop-at-preserved : goal.loop-at-preserved
loop-at-preserved g c =
    let e = sym c.self.invariant.3 ∙ ap need_of c.in-Reach.is in
    let s = sum_turn c.loop-at.seat.knows c.look-word.new.seat.knows c.loop-at.at c.look-word.result c.loop-at.sum c.add-sum.result c.look-word.ensures.knows c.look-word.ensures.count c.loop-at.invariant.sum (omega arith) in
    let knows = c.look-word.ensures.knows in
    let none = none_before g.C.Case.case c.loop-at.seat.knows c.look-word.new.seat.knows c.loop-at.at c.look-word.result knows c.loop-at.invariant.none in
    let one : c.look-word.new.seat.knows.looks ≡ c.loop-at.seat.knows.looks + 1 = ap (λ (k : Knowledge). k.looks) knows in
    let next : suc c.loop-at.at ≡ c.loop-at.at + 1 = omega arith in
    record {
      own = (c.look-word.ensures.seat.0 ∙ c.loop-at.invariant.own.0, c.look-word.ensures.seat.1 ∙ c.loop-at.invariant.own.1);
      others = looks_turn _ c.loop-at.seat.knows _ c.loop-at.at c.look-word.result c.loop-at.invariant.others knows c.look-word.ensures.stays;
      cuts = ap (λ (k : Knowledge). k.cuts) knows ∙ c.loop-at.invariant.cuts;
      least = ap (λ (k : Knowledge). k.least) knows ∙ c.loop-at.invariant.least;
      looks = (let i = c.loop-at.invariant.looks in omega arith);
      sum = subst (λ n. c.add-sum.result ≡ min (sum_below (known_count c.look-word.new.seat.knows) n) 18446744073709551615) next s;
      none = none_more g.C.Case.case c.look-word.new.seat.knows c.loop-at.at none (λ h. let m = enough_means g.C.Case.case c.in-Reach.need _ e h in let small = subst (λ n. IsBelow (need_of n) (2 ^ 63)) c.in-Reach.is c.self.invariant.8 in omega arith);
    }

-- bounded: a wrong body would search to its limit
pub returns-clause-settles : goal.returns-clause-settles
returns-clause-settles g c = search rules fits 60 depth 3

pub returns-clause-first : goal.returns-clause-first
returns-clause-first g c = search rules fits 60 depth 3
