use Rattle.std.proofs.Common.{◌≡◌, ◌∙◌, ap, length, arith}
use Rattle.split_tree.specs.TreeLaws.{some_leaf, length-numbers_from}
use Rattle.split_tree.specs.SplitTree.{leaf_numbers}
use Rattle.stealing_pool.proofs.Places.{shifts_within, shifts_seats, placed_len, placed_holds}
use Rattle.stealing_pool.proofs.Filled.{all_filled, all_reported}
use Rattle.stealing_pool.proofs.run.run_on.Goals as goal

pub sort_shifts-requires : goal.sort_shifts-requires
sort_shifts-requires g c =
    shifts_within (g.J.LeafJob.work c.args.job.now) (g.B.Handout.is_of c.args.opened.board) g.B.Handout.number g.B.Handout.status g.B.Handout.made_cut c.args.opened.seats.items c.in_ok-shifts.shifts.items c.in_ok-shifts.ensures.len c.in_ok-shifts.ensures.each c.leaves-2.result c.leaves-2.ensures

pub close-record-requires : goal.close-record-requires
close-record-requires g c = record {
  all =
      shifts_seats (g.J.LeafJob.work c.args.job.now) (g.B.Handout.is_of c.args.opened.board) g.B.Handout.number g.B.Handout.status g.B.Handout.made_cut c.args.opened.seats.items c.in_ok-shifts.shifts.items c.in_ok-shifts.ensures.len c.in_ok-shifts.ensures.each
      (g.B.LeafBoard.seat_count c.args.opened.board) c.in_ok-seats.seats.items c.requires.all c.in_ok-seats.ensures.seats;
}

pub pick_row-requires-clause-all : goal.pick_row-requires-clause-all
pick_row-requires-clause-all g c = placed_len c.leaves-2.result c.in_ok-shifts.shifts.items c.in_ok-seats.places.items c.in_ok-seats.ensures.places ∙ c.leaves-2.ensures

pub pick_row-requires-clause-some : goal.pick_row-requires-clause-some
pick_row-requires-clause-some g c =
    let work = g.J.LeafJob.work c.args.job.now in
    let size : length (leaf_numbers c.args.tree.now) ≡ work.leaves = ap length c.requires.tree ∙ length-numbers_from 0 work.leaves in
    let some = some_leaf c.args.tree.now in
    omega arith

pub pick_row-requires-clause-holds : goal.pick_row-requires-clause-holds
pick_row-requires-clause-holds g c =
    let same = c.in_ok-shifts.ensures.len in
    placed_holds (g.J.LeafJob.work c.args.job.now) c.leaves-2.result c.in_ok-shifts.shifts.items c.in_ok-seats.places.items c.leaves-2.ensures c.in_ok-seats.ensures.places (λ k e within. (c.in_ok-shifts.ensures.each k e.seat e (omega arith)).ran)

pub pick_row-requires-clause-has : goal.pick_row-requires-clause-has
pick_row-requires-clause-has g c =
    all_filled (g.J.LeafJob.work c.args.job.now) (g.B.Handout.is_of c.args.opened.board) g.B.Handout.number g.B.Handout.status g.B.Handout.drained g.B.Handout.made_cut c.args.opened.seats.items c.in_ok-shifts.shifts.items c.in_ok-shifts.ensures.len c.in_ok-shifts.ensures.each c.in_ok-shifts.ensures.first
    c.leaves-2.result c.leaves-2.ensures c.in_ok-seats.ensures.served c.in_ok-seats.seats.items c.in_ok-seats.ensures.seats c.in_ok-seats.places.items c.in_ok-seats.ensures.places
    (g.B.Handout.leaves c.args.opened.board) (g.B.Handout.full c.args.opened.board) (g.B.Handout.need c.args.opened.board) c.requires.case _ _ _ c.close-record.ensures c.requires.some

pub returns-clause-reports : goal.returns-clause-reports
returns-clause-reports g c =
    all_reported (g.J.LeafJob.work c.args.job.now) (g.B.Handout.is_of c.args.opened.board) g.B.Handout.number g.B.Handout.status g.B.Handout.drained g.B.Handout.made_cut c.args.opened.seats.items c.in_ok-shifts.shifts.items c.in_ok-shifts.ensures.len c.in_ok-shifts.ensures.each c.in_ok-shifts.ensures.first
    c.leaves-2.result c.leaves-2.ensures c.in_ok-seats.ensures.served c.in_ok-seats.seats.items c.in_ok-seats.ensures.seats c.in_ok-seats.places.items c.in_ok-seats.ensures.places
    (g.B.Handout.leaves c.args.opened.board) (g.B.Handout.full c.args.opened.board) (g.B.Handout.need c.args.opened.board) c.requires.case _ _ _ c.close-record.ensures c.requires.some
