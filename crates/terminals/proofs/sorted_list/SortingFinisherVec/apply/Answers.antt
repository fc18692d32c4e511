use Rattle.std.proofs.Common.{arith}
use Rattle.std.proofs.lemmas.Grind.{common_steps}
use Rattle.terminals.proofs.sorted_list.SortingFinisherVec.apply.Goals as goal

-- bounded: a wrong body would search to its limit
pub returns : goal.returns
returns g c = grind (arith, common_steps) steps 400000
