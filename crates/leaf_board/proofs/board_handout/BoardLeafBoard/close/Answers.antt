use Rattle.leaf_board.proofs.Handing.{all_seats, tells}
use Rattle.leaf_board.proofs.board_handout.BoardLeafBoard.close.Goals as goal

pub close-requires-clause-own : goal.close-requires-clause-own
close-requires-clause-own g c = (all_seats g.C.Case.case c.args.self c.args.seats.items c.requires.all).0

pub close-requires-clause-all : goal.close-requires-clause-all
close-requires-clause-all g c = (all_seats g.C.Case.case c.args.self c.args.seats.items c.requires.all).1

pub returns : goal.returns
returns g c = tells g.C.Case.case c.args.self c.args.seats.items c.close.result c.close.ensures
