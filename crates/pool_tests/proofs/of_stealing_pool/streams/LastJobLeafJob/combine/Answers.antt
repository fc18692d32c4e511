use Rattle.leaf_reading.specs.Fronts.{folding}
use Rattle.stealing_pool.specs.SpanLaws.{spans-combine-ok}
use Rattle.pool_tests.proofs.of_stealing_pool.streams.LastJobLeafJob.combine.Goals as goal

pub returns : goal.returns
returns g c =
    let j = c.args.self.now in
    let f = folding (g.D.Demand.needed j.demand.now) (g.D.Demand.counted j.demand.now) g.X.Item.Value.is_value (g.C.Collector.empty j.collector.now) (g.C.Collector.add j.collector.now) in
    spans-combine-ok f (g.C.Collector.content j.collector.now) (g.X.LastRun.lists j.stream.now) c.combine_containers.result c.args.left.now c.args.right c.combine_containers.new.left c.combine_containers.ensures
