use Rattle.split_tree.specs.Plan.{leaves_of}
use Rattle.leaf_reading.specs.Fronts.{folding}
use Rattle.stealing_pool.specs.Spans.{lists_of}
use Rattle.stealing_pool.specs.SpanLaws.{spans-combine-ok}
use Rattle.stealing_pool.proofs.plan_run.PlanJobLeafJob.combine.Goals as goal

pub returns : goal.returns
returns g c =
    let j = c.args.self.now in
    let f = folding (g.D.Demand.needed j.reading.demand.now) (g.D.Demand.counted j.reading.demand.now) g.G.Out.Value.is_value (g.C.Collector.empty j.reading.collector.now) (g.C.Collector.add j.reading.collector.now) in
    spans-combine-ok f (g.C.Collector.content j.reading.collector.now) (lists_of g.S.Spliterator.items (g.G.Stage.expand j.reading.stage.now) (leaves_of j.plan.now)) c.combine_containers.result c.args.left.now c.args.right c.combine_containers.new.left c.combine_containers.ensures
