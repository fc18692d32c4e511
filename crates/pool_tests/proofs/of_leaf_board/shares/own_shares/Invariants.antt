use Rattle.leaf_board.specs.Statuses.{AreSeats}
use Rattle.leaf_board.specs.Hands.{IsOn, number_of}
use Rattle.pool_tests.proofs.of_leaf_board.shares.own_shares.Given as goal

abbrev pub invariant-loop-number : goal.invariant-loop-number
invariant-loop-number g l = AreSeats (IsOn l.board) number_of g.C.Case.case.seats l.all.items

abbrev pub invariant-loop-number-2 : goal.invariant-loop-number-2
invariant-loop-number-2 g l = AreSeats (IsOn l.board) number_of g.C.Case.case.seats l.all.items
