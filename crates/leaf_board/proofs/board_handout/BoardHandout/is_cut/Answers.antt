use Rattle.std.proofs.Common.{rules}
use Rattle.leaf_board.proofs.board_handout.BoardHandout.is_cut.Goals as goal

-- bounded: a wrong body would search to its limit
pub returns-clause-tells : goal.returns-clause-tells
returns-clause-tells g c = search rules fits 60 depth 3
