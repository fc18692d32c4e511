use Rattle.std.proofs.Common.{refl, ap, ◌∙◌}
use Rattle.leaf_board.specs.Hands.{unknown_count}
use Rattle.leaf_board.proofs.Handing.{settled_cuts, settled_enough}
use Rattle.leaf_board.proofs.board_handout.BoardHandout.settle.Goals as goal

pub returns-clause-seat : goal.returns-clause-seat
returns-clause-seat g c = record {
  of = c.settle.ensures.seat.0 ∙ c.requires.of;
  numbered = c.settle.ensures.seat.1;
  draws = ap unknown_count c.settle.ensures.others.leaves;
  cuts = settled_cuts g.C.Case.case.need g.C.Case.case c.args.seat.now c.settle.new.seat c.args.i c.settle.ensures.settles;
}

pub returns-clause-enough : goal.returns-clause-enough
returns-clause-enough g c = settled_enough g.C.Case.case.need g.C.Case.case c.args.seat.now c.settle.new.seat c.args.i refl c.settle.ensures.settles c.settle.ensures.others
