use Rattle.std.proofs.Common.{◌≡◌, length}
use Rattle.leaf_board.specs.Statuses.{AreSeats}
use Rattle.leaf_board.specs.Hands.{IsOn, number_of}
use Rattle.leaf_board.specs.Boards.{AllHold}
use Rattle.pool_tests.proofs.of_leaf_board.simulation.simulate.Given as goal

abbrev pub invariant-loop-step : goal.invariant-loop-step
invariant-loop-step g l = record {
  seats : AreSeats (IsOn l.board) number_of g.C.Case.case.seats l.seats.items;
  many : length l.hands.items ≡ l.setting.seats;
  hands : AllHold g.C.Case.case.leaves l.seats.items l.hands.items;
}
