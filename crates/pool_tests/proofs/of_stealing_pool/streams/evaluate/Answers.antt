use Rattle.std.specs.Prelude.{List, Result, Ok, Err, IfOk}
use Rattle.stealing_pool.specs.declared.job_run.Gathered.{Gathered}
use Rattle.stealing_pool.specs.Jobs.{StandsForRun}
use Rattle.leaf_reading.specs.Fronts.{Folding, folding, IsFront}
use Rattle.stealing_pool.specs.Spans.{joined, work_of}
use Rattle.stealing_pool.specs.SpanLaws.{run-front}
use Rattle.pool_tests.proofs.of_stealing_pool.streams.evaluate.Goals as goal

gathered_front : {T C A E : Type 0} (f : Folding T C) (content : A → C) (lists : List (List T)) (r : Result (Gathered A) E)
    → IfOk r (λ g. StandsForRun (work_of f content lists) g.acc) → IfOk r (λ g. IsFront f (joined lists) (content g.acc))
gathered_front f content lists (Ok g) stands = run-front f content lists g.acc stands
gathered_front f content lists (Err e) stands = tt

pub returns : goal.returns
returns g c =
    let a = c.args in
    let f = folding (g.D.Demand.needed a.demand.now) (g.D.Demand.counted a.demand.now) g.X.Item.Value.is_value (g.C.Collector.empty a.collector.now) (g.C.Collector.add a.collector.now) in
    gathered_front f (g.C.Collector.content a.collector.now) (g.X.LastRun.lists a.stream.now) c.run_job.result c.run_job.ensures.stands
