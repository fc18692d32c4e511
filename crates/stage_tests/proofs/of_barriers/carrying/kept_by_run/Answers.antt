use Rattle.stage_tests.proofs.Told.{told-front}
use Rattle.stage_tests.proofs.of_barriers.carrying.kept_by_run.Goals as goal

pub returns-in_ok-from_slice-in-Reach : goal.returns-in_ok-from_slice-in-Reach
returns-in_ok-from_slice-in-Reach g c =
    told-front _ (g.B.Demand.counted c.args.barrier.now) c.args.part.now c.in_ok-from_slice-in-Reach.field-0.items
    (g.B.Barrier.needed_behind c.args.barrier.now c.args.state.now) c.front-taken.result.0 c.front-taken.result.1 c.in-Reach.wanted
    c.in-Reach.ensures.is c.in_ok-from_slice-in-Reach.ensures.items c.front-taken.ensures.counting c.front-taken.ensures.most c.front-taken.ensures.shortest
