use Rattle.std.proofs.Common.{rules}
use Rattle.leaf_board.proofs.board.Board.is_cut.Goals as goal

-- bounded: a wrong body would search to its limit
pub returns-clause-told : goal.returns-clause-told
returns-clause-told g c = search rules fits 60 depth 3

pub returns-clause-justified : goal.returns-clause-justified
returns-clause-justified g c = search rules fits 60 depth 3
