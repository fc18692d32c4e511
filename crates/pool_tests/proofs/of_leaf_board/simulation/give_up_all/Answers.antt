use Rattle.std.proofs.Common.{arith, ap, length, ◌∙◌}
use Rattle.leaf_board.specs.Seats.{Holder}
use Rattle.pool_tests.proofs.Simulated.{seats_set, hold_front, hold_past, length_snoc}
use Rattle.pool_tests.proofs.of_leaf_board.simulation.give_up_all.Goals as goal

pub loop-hand-preserved : goal.loop-hand-preserved
loop-hand-preserved g c = record {
  seats = c.loop-hand.invariant.seats;
  hands = hold_front g.C.Case.case.leaves c.loop-hand.seats.items c.pop.new.self.items c.loop-hand.hands.items _ c.in-Some.ensures.items c.loop-hand.invariant.hands;
}

pub loop-hand-preserved-in-Some-hand : goal.loop-hand-preserved-in-Some-hand
loop-hand-preserved-in-Some-hand g c =
    let rest = hold_front g.C.Case.case.leaves c.loop-hand.seats.items c.pop.new.self.items c.loop-hand.hands.items _ c.in-Some.ensures.items c.loop-hand.invariant.hands in
    let fewer = c.loop-hand.invariant.hands.0 in
    let many = ap length c.in-Some.ensures.items ∙ length_snoc c.pop.new.self.items _ in
    record {
      seats = seats_set c.args.board.now g.C.Case.case.seats c.loop-hand.seats.items c.len-at.result c.index_mut.result.now c.give_up.new.seat c.loop-hand.invariant.seats (omega arith) c.index_mut.ensures.value (ap (λ (h : Holder). h.board) c.give_up.ensures, ap (λ (h : Holder). h.number) c.give_up.ensures);
      hands = hold_past g.C.Case.case.leaves c.loop-hand.seats.items c.pop.new.self.items c.len-at.result c.give_up.new.seat (omega arith) rest;
    }
