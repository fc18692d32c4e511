use Rattle.std.proofs.Common.{ℕ, ◌≡◌, ◌+◌, ◌⊎◌, [], ◌∷◌, ◌++◌, length, Some}
use Rattle.std.specs.Prelude.{slice_get}
use mathlib.Core.Option.{some}
use lib.ListN.{get_elem?}
use Rattle.leaf_board.specs.Knowledge.{entry}
use Rattle.leaf_board.specs.Seats.{Holder}
use Rattle.leaf_board.specs.Closing.{AreOf}
use Rattle.leaf_board.proofs.board.join_seats.Given as goal

abbrev pub invariant-loop-other : goal.invariant-loop-other
invariant-loop-other g l = record {
  own : l.joined.table_id ≡ l.shared.table_id;
  plain : AreOf l.shared.table_id l.others.items;
  many : length l.joined.me.0.entries + length l.others.items ≡ length (l.fn.others.items ++ l.fn.first ∷ []);
  shows : (j : ℕ) (s : Holder) → slice_get (l.fn.others.items ++ l.fn.first ∷ []) j ≡ Some s → (slice_get l.others.items j ≡ Some s) ⊎ ((i : ℕ) × (i + j + 1 ≡ length (l.fn.others.items ++ l.fn.first ∷ [])) × (get_elem? l.joined.me.0.entries i ≡ some (entry s.number s.knows)));
}

abbrev pub decreases-loop-other : goal.decreases-loop-other
decreases-loop-other g l = goal.left-loop-other g l
