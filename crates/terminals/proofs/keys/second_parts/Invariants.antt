use Rattle.std.proofs.Common.{◌≡◌, ◌++◌, map}
use Rattle.terminals.proofs.keys.second_parts.Given as goal

-- the parts so far and those of what is left are all
abbrev pub invariant-loop-item : goal.invariant-loop-item
invariant-loop-item g l =
    (goal.iterator-loop-item g).can_next l.item-iterator
    × (goal.iterator-loop-item g).is_finite l.item-iterator
    × (l.items.items ++ map (λ p. p.1) l.item-iterator.rest.items ≡ map (λ p. p.1) l.fn.pairs.items)
