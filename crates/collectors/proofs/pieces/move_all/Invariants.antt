use Rattle.std.proofs.Common.{◌≡◌, ◌++◌, flat_map}
use Rattle.collectors.proofs.pieces.move_all.Given as goal

-- what was moved and what is left are all
abbrev pub invariant-loop-piece : goal.invariant-loop-piece
invariant-loop-piece g l =
    (goal.iterator-loop-piece g).can_next l.piece-iterator
    × (goal.iterator-loop-piece g).is_finite l.piece-iterator
    × (l.list.items ++ flat_map (λ piece. piece.items) l.piece-iterator.rest.items ≡ l.initial.list.items ++ flat_map (λ piece. piece.items) l.fn.pieces.items)
