use Rattle.std.proofs.Common.{slice_index_or}
use Rattle.stealing_pool.proofs.Shifts.{each_of_made, first_of_made, head_of_each, none_behind}
use Rattle.stealing_pool.proofs.crew.run_here.Goals as goal

pub run-requires : goal.run-requires
run-requires g c = head_of_each (g.W.Worker.accepts c.args.worker.now) c.in-Some.seat c.next.new.self.rest.items c.args.seats.rest.items c.in-Some.ensures.items c.requires.accepted

pub returns-clause-each : goal.returns-clause-each
returns-clause-each g c =
    let Gives = g.W.Worker.gives c.args.worker.now in
    let seats = c.next.new.self.rest.items in
    each_of_made Gives c.in-Some.seat seats c.args.seats.rest.items c.run.result c.new-others.result.items c.put_first.result c.in-Some.ensures.items c.put_first.ensures c.run.ensures.gives
    (λ k d e. none_behind c.in-Some.seat seats c.args.seats.rest.items c.in-Some.ensures.items c.requires.alone k (Gives (slice_index_or seats k d) (slice_index_or c.new-others.result.items k e)))

pub returns-clause-first : goal.returns-clause-first
returns-clause-first g c = λ some. first_of_made (g.W.Worker.ends c.args.worker.now) c.run.result c.new-others.result.items c.put_first.result c.put_first.ensures c.run.ensures.ends
