use Rattle.std.proofs.Common.{◌≡◌, ◌≤◌, ℕ, length, None}
use Rattle.std.specs.Prelude.{slice_index_or, vec_capacity}
use Rattle.pool_tests.proofs.of_leaf_board.simulation.empty_hands.Given as goal

abbrev pub invariant-loop-seat : goal.invariant-loop-seat
invariant-loop-seat l = record {
  many : length l.hands.items ≡ l._seat;
  room : l.seats ≤ vec_capacity l.hands;
  empty : (w : ℕ) → slice_index_or l.hands.items w None ≡ None;
}
