use Rattle.std.proofs.Common.{[], ◌∷◌}
use Rattle.leaf_board.specs.Boards.{case_of}
use Rattle.std.specs.Prelude.{None}
use Rattle.pool_tests.proofs.of_leaf_board.a_leaf_given_up_has_no_count.Given as goal

abbrev pub ghosts-two_leaves : goal.ghosts-two_leaves
ghosts-two_leaves g a = record { case = case_of 2 (0 ∷ 0 ∷ []) None 1 }
