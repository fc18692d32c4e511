use Rattle.std.proofs.Common.{refl}
use Rattle.leaf_reading.specs.Fronts.{folding}
use Rattle.stealing_pool.specs.SpanLaws.{leaf-ends-ok}
use Rattle.pool_tests.proofs.of_stealing_pool.streams.LastJobLeafJob.run_leaf.Goals as goal

pub returns-clause-end : goal.returns-clause-end
returns-clause-end g c =
    let j = c.args.self.now in
    let f = folding (g.D.Demand.needed j.demand.now) (g.D.Demand.counted j.demand.now) g.X.Item.Value.is_value (g.C.Collector.empty j.collector.now) (g.C.Collector.add j.collector.now) in
    leaf-ends-ok f (g.C.Collector.content j.collector.now) (g.X.LastRun.lists j.stream.now) c.args.leaf (g.B.Handout.cut c.run_last_leaf.new.seat) _ c.requires.within refl c.run_last_leaf.result c.run_last_leaf.ensures.end
