use Rattle.std.proofs.Common.{◌≡◌, arith, sym, ap, subst, length-set, ◌∙◌}
use Rattle.std.specs.Prelude.{slice_index_or}
use Rattle.leaf_board.specs.Case.{BoardCase}
use Rattle.leaf_board.specs.Seats.{Holder}
use Rattle.leaf_board.specs.Boards.{Holds}
use Rattle.leaf_board.proofs.Handing.{new_seats}
use Rattle.pool_tests.proofs.Simulated.{seats_set, hold_none, hold_set, same_hand}
use Rattle.pool_tests.proofs.of_leaf_board.simulation.simulate.Goals as goal

pub loop-step-init : goal.loop-step-init
loop-step-init g c =
    let new = new_seats g.C.Case.case c.in_ok-board.board c.in_ok-board.seats.items c.in_ok-board.ensures in
    let few : g.C.Case.case.seats ≡ c.args.setting.now.seats = ap (λ (x : BoardCase). x.seats) c.requires.case in record {
      seats = new;
      many = c.in_ok-hands.ensures.0;
      hands = hold_none g.C.Case.case.leaves c.in_ok-board.seats.items c.in_ok-hands.hands.items (let a = new.all in let b = c.in_ok-hands.ensures.0 in omega arith) c.in_ok-hands.ensures.1;
    }

pub turn-requires-clause-seat : goal.turn-requires-clause-seat
turn-requires-clause-seat g c =
    let few : g.C.Case.case.seats ≡ c.args.setting.now.seats = ap (λ (x : BoardCase). x.seats) c.requires.case in
    let many = c.loop-step.invariant.many in
    let all = c.loop-step.invariant.seats.all in
    let at = c.loop-step.invariant.seats.each c.within-at.result c.index_mut.result.now (omega arith) in
    let hand = c.loop-step.invariant.hands.1 c.within-at.result c.index_mut.result.now (omega arith) in (
      ap (λ (h : Holder). h.board) c.index_mut.ensures.value ∙ at.0,
      subst (λ (h : Holder). Holds g.C.Case.case.leaves h c.index_mut-in-loop-step.result.now) (sym c.index_mut.ensures.value)
          (subst (Holds g.C.Case.case.leaves (slice_index_or c.loop-step.seats.items c.within-at.result c.index_mut.result.now)) (same_hand c.loop-step.hands.items c.within-at.result _ _ (omega arith) ∙ sym c.index_mut-in-loop-step.ensures.value) hand),
    )

pub loop-step-preserved : goal.loop-step-preserved
loop-step-preserved g c =
    let few : g.C.Case.case.seats ≡ c.args.setting.now.seats = ap (λ (x : BoardCase). x.seats) c.requires.case in
    let many = c.loop-step.invariant.many in
    let all = c.loop-step.invariant.seats.all in record {
      seats = seats_set c.in_ok-board.board g.C.Case.case.seats c.loop-step.seats.items c.within-at.result c.index_mut.result.now c.turn.new.seat c.loop-step.invariant.seats (omega arith) c.index_mut.ensures.value c.turn.ensures.seat;
      many = length-set c.loop-step.hands.items c.within-at.result c.turn.new.hand ∙ many;
      hands = hold_set g.C.Case.case.leaves c.loop-step.seats.items c.loop-step.hands.items c.within-at.result c.turn.new.seat c.turn.new.hand c.loop-step.invariant.hands (omega arith) c.turn.ensures.hand;
    }
