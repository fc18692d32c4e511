use Rattle.leaf_board.specs.Statuses.{AreSeats}
use Rattle.leaf_board.specs.Hands.{IsOn, number_of}
use Rattle.leaf_board.specs.Boards.{AllHold}
use Rattle.pool_tests.proofs.of_leaf_board.simulation.give_up_all.Given as goal

abbrev pub invariant-loop-hand : goal.invariant-loop-hand
invariant-loop-hand g l = record {
  seats : AreSeats (IsOn l.board) number_of g.C.Case.case.seats l.seats.items;
  hands : AllHold g.C.Case.case.leaves l.seats.items l.hands.items;
}

abbrev pub decreases-loop-hand : goal.decreases-loop-hand
decreases-loop-hand g l = goal.left-loop-hand g l
