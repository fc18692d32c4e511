use Rattle.barriers.specs.Needs.{need_of}
use Rattle.leaf_board.specs.Boards.{case_of}
use Rattle.pool_tests.proofs.of_leaf_board.simulation.random_orders_answer_as_the_plain_rule.Given as goal

abbrev pub ghosts-simulate : goal.ghosts-simulate
ghosts-simulate g a = record { case = case_of a.setting.now.leaves a.setting.now.full.items (need_of a.setting.now.need) a.setting.now.seats }
