use Rattle.std.proofs.Common.{◌≡◌, ◌++◌, List, None, flat_map, map}
use Rattle.parallel_streams.proofs.carry.carry_lists.Given as goal

-- what came so far left what is kept, and the state is behind it
abbrev pub invariant-loop-list : goal.invariant-loop-list
invariant-loop-list g l =
    let content = g.T.Value.content in
    let behind = g.B.Barrier.value_behind l.barrier in
    let all = map content (flat_map (λ list. list.items) l.fn.lists.items) in
    let rest = map content (flat_map (λ list. list.items) l.list-iterator.rest.items) in
    (goal.iterator-loop-list g).can_next l.list-iterator
    × (goal.iterator-loop-list g).is_finite l.list-iterator
    × (g.B.Barrier.needed_behind l.barrier l.state ≡ None)
    × ((more : List _) → behind l.initial.state (all ++ more) ≡ map content l.kept.items ++ behind l.state (rest ++ more))
