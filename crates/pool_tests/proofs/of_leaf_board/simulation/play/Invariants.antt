use Rattle.barriers.specs.Needs.{need_of}
use Rattle.leaf_board.specs.Boards.{case_of}
use Rattle.pool_tests.proofs.of_leaf_board.simulation.play.Given as goal

abbrev pub ghosts-simulate : goal.ghosts-simulate
ghosts-simulate g a = record { case = case_of a.setting.now.leaves a.setting.now.full.items (need_of a.setting.now.need) a.setting.now.seats }
