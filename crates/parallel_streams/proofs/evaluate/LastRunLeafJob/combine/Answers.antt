use Rattle.leaf_reading.specs.Fronts.{folding}
use Rattle.stealing_pool.specs.SpanLaws.{spans-combine-ok}
use Rattle.parallel_streams.proofs.evaluate.LastRunLeafJob.combine.Goals as goal

pub returns : goal.returns
returns g c =
    let j = c.args.self.now in
    let D = g.D.Demand in
    let C = g.C.Collector in
    let f = folding (D.needed j.demand.now) (D.counted j.demand.now) g.X.Item.Value.is_value (C.empty j.collector.now) (C.add j.collector.now) in
    spans-combine-ok f (C.content j.collector.now) (g.X.Plumbing.parts j.stream.now j.progress.now) c.combine_containers.result c.args.left.now c.args.right c.combine_containers.new.left c.combine_containers.ensures
