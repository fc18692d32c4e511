use Rattle.std.proofs.lemmas.Grind.{common_steps}
use Rattle.std.proofs.Common.{arith, rules}
use Rattle.sources.proofs.slice.SliceSplitSpliterator.lent_block.Goals as goal

-- bounded: a wrong body would search to its limit
pub returns-clause-most : goal.returns-clause-most
returns-clause-most g c = search rules fits 60 depth 3

-- bounded: a wrong body would search to its limit
pub returns-clause-lent : goal.returns-clause-lent
returns-clause-lent g c = grind (arith, common_steps) steps 400000
