use Rattle.std.proofs.Common.{◌≡◌, map, take, drop}
use Rattle.derived_collectors.proofs.scanning.join_to_each.Given as goal

-- the totals before the place are joined, those behind it are as they were
abbrev pub invariant-loop-x : goal.invariant-loop-x
invariant-loop-x g l =
    (map g.T.Value.content (take l.x-index l.later) ≡ map (λ y. g.O.Operator.join l.operator (g.T.Value.content l.total) y) (map g.T.Value.content (take l.x-index l.initial.later)))
    × (drop l.x-index l.later ≡ drop l.x-index l.initial.later)
