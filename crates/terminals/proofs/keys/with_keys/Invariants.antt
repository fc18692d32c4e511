use Rattle.std.proofs.Common.{◌≡◌, ◌++◌, map}
use Rattle.collectors.specs.Grouping.{contents}
use Rattle.terminals.specs.Sorted.{beside_keys}
use Rattle.terminals.proofs.keys.with_keys.Given as goal

-- the pairs so far and those of what is left are all
abbrev pub invariant-loop-item : goal.invariant-loop-item
invariant-loop-item g l =
    let beside = beside_keys (g.M.Mapping.image l.fn.key) in
    (goal.iterator-loop-item g).can_next l.item-iterator
    × (goal.iterator-loop-item g).is_finite l.item-iterator
    × (contents g.M.Out.Value.content g.T.Value.content l.pairs.items ++ beside (map g.T.Value.content l.item-iterator.rest.items) ≡ beside (map g.T.Value.content l.fn.items.items))
