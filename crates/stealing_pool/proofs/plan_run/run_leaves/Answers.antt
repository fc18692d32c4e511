use Rattle.std.proofs.Common.{List, subst}
use Rattle.std.specs.Prelude.{flat_map, Result, Ok, Err, IfOk}
use Rattle.split_tree.specs.Plan.{leaves_of}
use Rattle.stealing_pool.specs.declared.job_run.Gathered.{Gathered}
use Rattle.stealing_pool.specs.Jobs.{StandsForRun}
use Rattle.leaf_reading.specs.Fronts.{Folding, folding, IsFront}
use Rattle.stealing_pool.specs.Spans.{lists_of, work_of}
use Rattle.stealing_pool.specs.SpanLaws.{joined-lists_of, run-front}
use Rattle.stealing_pool.proofs.plan_run.run_leaves.Goals as goal

gathered_front : {S X T C A E : Type 0} (f : Folding T C) (content : A → C) (items : S → List X) (expand : X → List T) (leaves : List S) (r : Result (Gathered A) E)
    → IfOk r (λ g. StandsForRun (work_of f content (lists_of items expand leaves)) g.acc) → IfOk r (λ g. IsFront f (flat_map expand (flat_map items leaves)) (content g.acc))
gathered_front {T = T} f content items expand leaves (Ok g) stands =
    let P : List T → Type 0 = λ l. IsFront f l (content g.acc) in
    subst P (joined-lists_of items expand leaves) (run-front f content (lists_of items expand leaves) g.acc stands)
gathered_front f content items expand leaves (Err e) stands = tt

pub returns-clause-front : goal.returns-clause-front
returns-clause-front g c =
    let a = c.args in
    let f = folding (g.D.Demand.needed a.demand.now) (g.D.Demand.counted a.demand.now) g.G.Out.Value.is_value (g.C.Collector.empty a.collector.now) (g.C.Collector.add a.collector.now) in
    gathered_front f (g.C.Collector.content a.collector.now) g.S.Spliterator.items (g.G.Stage.expand a.stage.now) (leaves_of a.plan.now) c.run_job.result c.run_job.ensures.stands
