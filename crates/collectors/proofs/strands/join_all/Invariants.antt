use Rattle.std.proofs.Common.{◌≡◌, map, take, fold}
use Rattle.collectors.proofs.strands.join_all.Given as goal

abbrev pub invariant-loop-x : goal.invariant-loop-x
invariant-loop-x g l = g.T.Value.content l.joined ≡ fold (g.O.Operator.join l.operator) (g.T.Value.content l.initial.joined) (map g.T.Value.content (take l.x-index l.rest))
