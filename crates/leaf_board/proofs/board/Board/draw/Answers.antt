use Rattle.std.proofs.Common.{rules}
use Rattle.leaf_board.proofs.board.Board.draw.Goals as goal

-- bounded: a wrong body would search to its limit
pub returns-clause-told : goal.returns-clause-told
returns-clause-told g c = search rules fits 60 depth 3

pub returns-clause-steps : goal.returns-clause-steps
returns-clause-steps g c = search rules fits 60 depth 3

pub returns-clause-drained : goal.returns-clause-drained
returns-clause-drained g c = search rules fits 60 depth 3

pub loop-passed-init : goal.loop-passed-init
loop-passed-init g c = search rules fits 60 depth 3
