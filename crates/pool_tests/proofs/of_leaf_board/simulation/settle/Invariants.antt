use Rattle.std.proofs.Common.{◌≡◌}
use Rattle.leaf_board.specs.Seats.{SameSeat}
use Rattle.pool_tests.proofs.of_leaf_board.simulation.settle.Given as goal

abbrev pub invariant-loop-leaf : goal.invariant-loop-leaf
invariant-loop-leaf g l = record {
  own : SameSeat l.initial.seat l.seat;
  leaves : l.seat.knows.leaves ≡ l.initial.seat.knows.leaves;
}
