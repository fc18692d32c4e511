use Rattle.std.proofs.Common.{rules, arith}
use Rattle.std.proofs.lemmas.Grind.{common_steps}
use Rattle.spliterator.proofs.spliterator.Spliterator.next_block.Goals as goal

-- bounded: a wrong body would search to its limit
pub returns-clause-ended : goal.returns-clause-ended
returns-clause-ended g c = search rules fits 60 depth 3

pub loop-read-preserved : goal.loop-read-preserved
loop-read-preserved g c = grind (arith, common_steps) steps 400000
