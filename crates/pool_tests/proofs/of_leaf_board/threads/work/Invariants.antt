use Rattle.leaf_board.specs.Seats.{SameSeat}
use Rattle.pool_tests.proofs.of_leaf_board.threads.work.Given as goal

abbrev pub invariant-loop-step : goal.invariant-loop-step
invariant-loop-step g l = SameSeat l.initial.seat l.seat
