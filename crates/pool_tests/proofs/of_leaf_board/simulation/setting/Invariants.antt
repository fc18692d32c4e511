use Rattle.std.proofs.Common.{◌≡◌, length}
use Rattle.pool_tests.proofs.of_leaf_board.simulation.setting.Given as goal

abbrev pub invariant-loop-leaf : goal.invariant-loop-leaf
invariant-loop-leaf l = length l.full.items ≡ l.leaves
