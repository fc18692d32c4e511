use Rattle.stream_functions.proofs.pieces.+piece_of.Given as goal

abbrev pub decreases-piece_of : goal.decreases-piece_of
decreases-piece_of l = l.at
