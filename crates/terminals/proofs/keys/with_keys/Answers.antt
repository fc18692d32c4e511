use Rattle.std.proofs.Common.{arith}
use Rattle.std.proofs.lemmas.Grind.{common_steps}
use Rattle.terminals.proofs.keys.with_keys.Goals as goal

-- bounded: a wrong body would search to its limit
pub loop-item-preserved : goal.loop-item-preserved
loop-item-preserved g c = grind (arith, common_steps) steps 400000
