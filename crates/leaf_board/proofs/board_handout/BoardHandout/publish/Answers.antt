use Rattle.std.proofs.Common.{refl, ap, ◌∙◌}
use Rattle.leaf_board.specs.Statuses.{Published}
use Rattle.leaf_board.specs.Knowledge.{Knowledge}
use Rattle.leaf_board.specs.Hands.{unknown_count}
use Rattle.leaf_board.proofs.Handing.{same_cuts, spent_count}
use Rattle.leaf_board.proofs.board_handout.BoardHandout.publish.Goals as goal

pub returns-clause-seat : goal.returns-clause-seat
returns-clause-seat g c =
    let k = c.args.seat.now.knows in
    record {
      of = c.publish.ensures.seat.0 ∙ c.requires.of;
      numbered = c.publish.ensures.seat.1;
      draws = ap (λ (x : Knowledge). unknown_count x.leaves) c.publish.ensures.knows ∙ spent_count k c.args.pass (Published c.args.count) c.requires.given refl;
      cuts = same_cuts c.args.seat.now c.publish.new.seat (ap (λ (x : Knowledge). x.cuts) c.publish.ensures.knows);
    }
