use Rattle.barriers.specs.Needs.{need_of}
use Rattle.leaf_board.specs.Boards.{largest}
use Rattle.pool_tests.proofs.of_leaf_board.threads.sixty_four_threads_skip_right_of_the_cut.Given as goal

abbrev pub ghosts-in_threads : goal.ghosts-in_threads
ghosts-in_threads g a = record { case = largest (need_of a.need) }
