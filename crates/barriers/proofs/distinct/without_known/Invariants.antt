use Rattle.std.proofs.Common.{◌≡◌, ◌++◌, filter, not}
use Rattle.std.specs.List.{list_any}
use Rattle.barriers.proofs.distinct.without_known.Given as goal

-- what is kept, followed by what didn't come of what is left, is what didn't come of all
abbrev pub invariant-loop-x : goal.invariant-loop-x
invariant-loop-x g l =
    let new = filter (λ x. not (list_any (g.T.PartialEq.eq x) l.fn.came.keys)) in
    l.kept.items ++ new l.x-iterator.rest.items ≡ new l.fn.items.items
