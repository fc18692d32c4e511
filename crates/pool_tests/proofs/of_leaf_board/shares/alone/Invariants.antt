use Rattle.std.proofs.Common.{◌≡◌}
use Rattle.pool_tests.proofs.of_leaf_board.shares.alone.Given as goal

abbrev pub invariant-loop-at : goal.invariant-loop-at
invariant-loop-at g l = l.seat.board ≡ l.board
