use Rattle.std.proofs.Common.{List, map, flat_map, subst, ap, IfOk}
use Rattle.leaf_reading.specs.Fronts.{folding}
use Rattle.stealing_pool.specs.Spans.{work_of}
use Rattle.stealing_pool.specs.Jobs.{EndsLeaf}
use Rattle.parallel_streams.specs.LeafLaws.{map-fused}
use Rattle.parallel_streams.proofs.staged.StagedPlumbing.run_last_leaf.Goals as goal

pub returns-clause-end : goal.returns-clause-end
returns-clause-end g c =
    let s = c.args.self.now in
    let D = g.D.Demand in
    let C = g.C.Collector in
    let parts = g.U.Plumbing.parts s.upstream c.args.progress.now in
    let f = folding (D.needed c.args.reading.now.demand.now) (D.counted c.args.reading.now.demand.now) g.G.Out.Value.is_value (C.empty c.args.reading.now.collector.now) (C.add c.args.reading.now.collector.now) in
    let P : List (List _) → Type 0 = λ lists. IfOk c.run_last_leaf.result (EndsLeaf (work_of f (C.content c.args.reading.now.collector.now) lists) (g.L.Handout.cut c.run_last_leaf.new.seat) c.args.leaf) in
    let Q : g.row.A.Denot → Type 0 = λ a. P (map (flat_map (λ x. flat_map (g.G.Stage.expand c.new-fused.result.second.now) (g.A.Stage.expand a x))) parts) in
    let R : g.row.G.Denot → Type 0 = λ b. P (map (flat_map (λ x. flat_map (g.G.Stage.expand b) (g.A.Stage.expand s.stage x))) parts) in
    let first = subst Q (ap (λ r. r.now) c.new-fused.ensures.first) c.run_last_leaf.ensures.end in
    let both = subst R (ap (λ r. r.now) c.new-fused.ensures.second) first in
    subst P (map-fused (g.A.Stage.expand s.stage) (g.G.Stage.expand c.args.reading.now.stage.now) parts) both
