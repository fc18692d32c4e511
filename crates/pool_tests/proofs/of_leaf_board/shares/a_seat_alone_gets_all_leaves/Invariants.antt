use Rattle.std.proofs.Common.{[]}
use Rattle.leaf_board.specs.Boards.{case_of}
use Rattle.std.specs.Prelude.{None}
use Rattle.pool_tests.proofs.of_leaf_board.shares.a_seat_alone_gets_all_leaves.Given as goal

abbrev pub ghosts-alone : goal.ghosts-alone
ghosts-alone g a = record { case = case_of a.leaves [] None a.seats }
