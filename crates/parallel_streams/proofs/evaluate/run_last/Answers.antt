use Rattle.leaf_reading.specs.Fronts.{folding}
use Rattle.stealing_pool.specs.SpanLaws.{run-front}
use Rattle.parallel_streams.proofs.evaluate.run_last.Goals as goal

pub returns : goal.returns
returns g c =
    let D = g.D.Demand in
    let C = g.C.Collector in
    let f = folding (D.needed c.args.demand.now) (D.counted c.args.demand.now) g.X.Item.Value.is_value (C.empty c.args.collector.now) (C.add c.args.collector.now) in
    let lists = g.X.Plumbing.parts c.args.stream.now c.args.progress.now in
    (run-front f (C.content c.args.collector.now) lists c.in_ok-last.last.acc c.in_ok-last.ensures.stands, c.in_ok-last.ensures.entry)
