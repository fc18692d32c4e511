use Rattle.std.proofs.Common.{rules, arith}
use Rattle.std.proofs.lemmas.Grind.{common_steps}
use Rattle.barriers.proofs.demand.Demand.front.Goals as goal

-- bounded: a wrong body would search to its limit
pub returns-then-counting-wanted-clause-counting : goal.returns-then-counting-wanted-clause-counting
returns-then-counting-wanted-clause-counting g c = search rules fits 60 depth 3

pub returns-then-counting-wanted-clause-shortest : goal.returns-then-counting-wanted-clause-shortest
returns-then-counting-wanted-clause-shortest g c = search rules fits 60 depth 3

pub loop-taken-preserved : goal.loop-taken-preserved
loop-taken-preserved g c = grind (arith, common_steps) steps 400000
