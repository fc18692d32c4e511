use Rattle.std.proofs.Common.{length}
use Rattle.std.specs.Prelude.{flat_map}
use Rattle.leaf_reading.specs.Stretches.{TakesOn}
use Rattle.leaf_board.specs.Statuses.{StaysSeat, SameFrom}
use Rattle.leaf_reading.proofs.stretch.feed_until_cut.Given as goal

abbrev pub invariant-reading : goal.invariant-reading
invariant-reading g l = record {
  seat : StaysSeat (g.B.Handout.is_of l.board) g.B.Handout.number g.B.Handout.draws_left g.B.Handout.made_cut l.initial.seat l.seat;
  same : SameFrom (g.B.Handout.status l.initial.seat) (g.B.Handout.status l.seat);
  ready : g.K.Sink.ready l.sink;
  taken : TakesOn g.K.Sink.takes (flat_map (g.G.Stage.expand l.stage)) (g.S.Spliterator.items l.fn.source) l.fn.sink (g.S.Spliterator.items l.source) l.sink;
}

abbrev pub decreases-reading : goal.decreases-reading
decreases-reading g l = length (g.S.Spliterator.items l.source)
