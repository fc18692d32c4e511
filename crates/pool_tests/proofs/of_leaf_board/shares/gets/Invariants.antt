use Rattle.leaf_board.specs.Seats.{SameSeat}
use Rattle.pool_tests.proofs.of_leaf_board.shares.gets.Given as goal

abbrev pub invariant-loop-expected : goal.invariant-loop-expected
invariant-loop-expected g l = SameSeat l.initial.seat l.seat
