use Rattle.std.proofs.Common.{arith}
use Rattle.std.proofs.lemmas.Grind.{common_steps}
use Rattle.collectors.proofs.pieces.move_all.Goals as goal

-- bounded: a wrong body would search to its limit
pub loop-piece-preserved : goal.loop-piece-preserved
loop-piece-preserved g c = grind (arith, common_steps) steps 400000
