use Rattle.leaf_board.proofs.Handing.{handed}
use Rattle.leaf_board.proofs.board_handout.BoardHandout.draw.Goals as goal

pub returns-clause-draws : goal.returns-clause-draws
returns-clause-draws g c = handed g.C.Case.case c.args.seat.now c.draw.new.seat c.draw.result c.draw.ensures.told
