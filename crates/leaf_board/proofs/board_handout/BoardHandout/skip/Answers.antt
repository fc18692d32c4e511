use Rattle.std.proofs.Common.{ap, ◌∙◌}
use Rattle.leaf_board.specs.Knowledge.{Knowledge}
use Rattle.leaf_board.specs.Hands.{unknown_count}
use Rattle.leaf_board.proofs.Handing.{same_cuts, skip_count}
use Rattle.leaf_board.proofs.board_handout.BoardHandout.skip.Goals as goal

pub returns-clause-seat : goal.returns-clause-seat
returns-clause-seat g c =
    let k = c.args.seat.now.knows in
    record {
      of = c.skip.ensures.seat.0 ∙ c.requires.of;
      numbered = c.skip.ensures.seat.1;
      draws = ap (λ (x : Knowledge). unknown_count x.leaves) c.skip.ensures.knows ∙ skip_count k c.args.pass c.skip.new.seat.knows.least c.requires.given;
      cuts = same_cuts c.args.seat.now c.skip.new.seat (ap (λ (x : Knowledge). x.cuts) c.skip.ensures.knows);
    }
