use Rattle.std.proofs.Common.{arith}
use Rattle.std.proofs.lemmas.Grind.{common_steps}
use Rattle.leaf_board.proofs.board.opening_words.Goals as goal

-- what the check finds by itself, after a long search
pub loop-share-preserved : goal.loop-share-preserved
loop-share-preserved g c = grind (arith, common_steps)
