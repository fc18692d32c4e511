use Rattle.std.proofs.Common.{List, subst, IfOk}
use Rattle.leaf_reading.specs.Fronts.{folding}
use Rattle.stealing_pool.specs.Spans.{work_of}
use Rattle.stealing_pool.specs.Jobs.{EndsLeaf}
use Rattle.parallel_streams.specs.LeafLaws.{map-alone}
use Rattle.parallel_streams.proofs.evaluate.LastRunLeafJob.run_leaf.Goals as goal

pub returns-clause-end : goal.returns-clause-end
returns-clause-end g c =
    let j = c.args.self.now in
    let D = g.D.Demand in
    let C = g.C.Collector in
    let f = folding (D.needed j.demand.now) (D.counted j.demand.now) g.X.Item.Value.is_value (C.empty j.collector.now) (C.add j.collector.now) in
    let P : List (List _) → Type 0 = λ lists. IfOk c.run_last_leaf.result (EndsLeaf (work_of f (C.content j.collector.now) lists) (g.B.Handout.cut c.run_last_leaf.new.seat) c.args.leaf) in
    subst P (map-alone (g.X.Plumbing.parts j.stream.now j.progress.now)) c.run_last_leaf.ensures.end
