use Rattle.std.proofs.Common.{[], None}
use Rattle.leaf_board.specs.Boards.{case_of}
use Rattle.pool_tests.proofs.of_leaf_board.shares.ten_leaves_in_four_shares.Given as goal

abbrev pub ghosts-own_shares : goal.ghosts-own_shares
ghosts-own_shares g a = record { case = case_of a.leaves [] None a.seats }
