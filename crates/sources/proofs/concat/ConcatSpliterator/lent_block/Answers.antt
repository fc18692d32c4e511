use Rattle.std.proofs.Common.{arith}
use Rattle.std.proofs.lemmas.Grind.{common_steps}
use Rattle.sources.proofs.concat.ConcatSpliterator.lent_block.Goals as goal

-- bounded: a wrong body would search to its limit
pub returns-in-Some-clause-lent : goal.returns-in-Some-clause-lent
returns-in-Some-clause-lent g c = grind (arith, common_steps) steps 400000
