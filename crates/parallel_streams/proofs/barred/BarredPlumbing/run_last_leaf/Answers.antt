use Rattle.std.proofs.Common.{◌≡◌, List, Some, map, flat_map, slice_get, subst, sym, ap, ◌∙◌}
use Rattle.leaf_reading.specs.Fronts.{folding}
use Rattle.stealing_pool.specs.SpanLaws.{leaf-ends-ok}
use Rattle.parallel_streams.specs.Cuts.{cut_at}
use Rattle.parallel_streams.specs.Ends.{ends_of}
use Rattle.parallel_streams.specs.Progress.{parts_of}
use Rattle.parallel_streams.specs.ProgressLaws.{part-at, part-within}
use Rattle.parallel_streams.proofs.barred.BarredPlumbing.run_last_leaf.Goals as goal

pub returns-in-Some-clause-end : goal.returns-in-Some-clause-end
returns-in-Some-clause-end g c =
    let s = c.args.self.now in
    let p = c.args.progress.now in
    let D = g.D.Demand in
    let C = g.C.Collector in
    let content = g.U.Item.Value.content in
    let f = folding (D.needed c.args.reading.now.demand.now) (D.counted c.args.reading.now.demand.now) g.G.Out.Value.is_value (C.empty c.args.reading.now.collector.now) (C.add c.args.reading.now.collector.now) in
    let through = flat_map (g.G.Stage.expand c.args.reading.now.stage.now) in
    let part = c.part-items.result.now in
    let Q : List g.row.U-Item.Denot → Type 0 = λ l. slice_get (cut_at 0 (ends_of c.in-Some.listed.places) l) c.args.leaf ≡ Some part in
    let found = subst Q c.deref.ensures.value c.part-items.ensures in
    let here = part-at content through (g.U.Plumbing.parts c.args.self.now.upstream p.before) p.listed c.in-Some.listed c.args.leaf part c.in-Some.is found ∙ ap through (sym c.new.ensures) in
    let U = g.U.Plumbing in
    let parts = U.parts s.upstream p.before in
    let within =
    part-within content through (U.leaves_next s.upstream p.before) parts p.passes (U.done s.upstream p.before) p.listed c.args.leaf c.requires.done (g.met.U.Plumbing.parts_count s.upstream p.before)
    c.requires.within in
    leaf-ends-ok f (C.content c.args.reading.now.collector.now) (map through (parts_of content parts p.listed)) c.args.leaf (g.L.Handout.cut c.read_leaf.new.seat) (through (map content c.new.result.items.now)) within here c.read_leaf.result c.read_leaf.ensures.end
