use Rattle.std.proofs.Common.{arith}
use Rattle.std.proofs.lemmas.Grind.{common_steps}
use Rattle.collectors.proofs.pieces.Pieces.join.Goals as goal

-- bounded: a wrong body would search to its limit
pub returns-then-is_empty : goal.returns-then-is_empty
returns-then-is_empty g c = grind (arith, common_steps) steps 400000
