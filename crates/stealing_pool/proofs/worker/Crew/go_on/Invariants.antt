use Rattle.std.proofs.Common.{◌≡◌}
use Rattle.std.specs.Prelude.{All, false}
use Rattle.stealing_pool.specs.Shifts.{IsRan, KeepsShift, CutBy}
use Rattle.stealing_pool.proofs.worker.Crew.go_on.Given as goal

abbrev pub invariant-drawing : goal.invariant-drawing
invariant-drawing g l = record {
  of : g.B.Handout.is_of l.self.board.now l.shift.seat;
  numbered : g.B.Handout.number l.shift.seat ≡ g.B.Handout.number l.fn.shift.seat;
  ran : All (IsRan (g.J.LeafJob.work l.self.job.now)) l.shift.ran.items;
  cuts : All (CutBy (g.J.LeafJob.work l.self.job.now) g.B.Handout.made_cut l.shift.seat) l.shift.ran.items;
  served : KeepsShift (g.B.Handout.status l.shift.seat) l.shift.ran.items;
  goes_on : l.shift.refused ≡ false;
}

abbrev pub decreases-drawing : goal.decreases-drawing
decreases-drawing g l = g.B.Handout.draws_left l.shift.seat
