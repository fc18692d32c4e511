use Rattle.std.proofs.Common.{◌<◌, length, arith}
use Rattle.std.specs.Prelude.{flat_map}
use Rattle.std.proofs.lemmas.List.{length-map}
use Rattle.split_tree.specs.Plan.{leaves_of}
use Rattle.leaf_reading.specs.Fronts.{folding}
use Rattle.stealing_pool.specs.Spans.{lists_of}
use Rattle.stealing_pool.specs.SpanLaws.{list-at, leaf-ends-ok}
use Rattle.stealing_pool.proofs.plan_run.PlanJobLeafJob.run_leaf.Goals as goal

pub returns-clause-end : goal.returns-clause-end
returns-clause-end g c =
    let j = c.args.self.now in
    let f = folding (g.D.Demand.needed j.reading.demand.now) (g.D.Demand.counted j.reading.demand.now) g.G.Out.Value.is_value (g.C.Collector.empty j.reading.collector.now) (g.C.Collector.add j.reading.collector.now) in
    let items = g.S.Spliterator.items in
    let expand = g.G.Stage.expand j.reading.stage.now in
    let leaves = leaves_of j.plan.now in
    let sizes = length-map leaves (λ s. flat_map expand (items s)) in
    let within : c.args.leaf < length leaves = let w = c.requires.within in omega arith in
    leaf-ends-ok f (g.C.Collector.content j.reading.collector.now) (lists_of items expand leaves) c.args.leaf (g.B.Handout.cut c.read_leaf.new.seat) (flat_map expand (items c.leaf-source.result)) c.requires.within (list-at items expand leaves c.args.leaf c.leaf-source.result within c.leaf-source.ensures) c.read_leaf.result c.read_leaf.ensures.end
