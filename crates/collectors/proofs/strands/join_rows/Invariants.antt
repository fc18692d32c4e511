use Rattle.std.proofs.Common.{◌≡◌, map, take, fold}
use Rattle.collectors.proofs.strands.join_rows.Given as goal

abbrev pub invariant-loop-i : goal.invariant-loop-i
invariant-loop-i g l =
    let content = g.T.Value.content in
    let join = g.O.Operator.join l.operator in
    (content l.strands.first ≡ fold join (content l.fn.strands.first) (map content (take l.i l.a)))
    × (content l.strands.second ≡ fold join (content l.fn.strands.second) (map content (take l.i l.b)))
    × (content l.strands.third ≡ fold join (content l.fn.strands.third) (map content (take l.i l.c)))
    × (content l.strands.fourth ≡ fold join (content l.fn.strands.fourth) (map content (take l.i l.d)))
