use Rattle.std.proofs.Common.{◌≡◌, ◌<◌, ℕ, [], map, flat_map, length, subst, sym, ◌∙◌, ap}
use Rattle.std.proofs.lemmas.List.{length-map}
use Rattle.std.specs.List.{slice_index_or}
use Rattle.split_tree.specs.Plan.{leaves_of}
use Rattle.leaf_reading.specs.Fronts.{folding}
use Rattle.stealing_pool.specs.SpanLaws.{leaf-ends-ok}
use Rattle.parallel_streams.specs.LeafLaws.{map-both, get-mapped}
use Rattle.parallel_streams.proofs.source.SourcePlumbing.run_last_leaf.Goals as goal

pub returns-clause-end : goal.returns-clause-end
returns-clause-end g c =
    let D = g.D.Demand in
    let C = g.C.Collector in
    let f = folding (D.needed c.args.reading.now.demand.now) (D.counted c.args.reading.now.demand.now) g.G.Out.Value.is_value (C.empty c.args.reading.now.collector.now) (C.add c.args.reading.now.collector.now) in
    let leaves = leaves_of c.args.progress.now.plan in
    let items = g.S.Spliterator.items in
    let through = flat_map (g.G.Stage.expand c.args.reading.now.stage.now) in
    let lists = map through (map items leaves) in
    let number : length leaves ≡ length lists = sym (length-map (map items leaves) through ∙ length-map leaves items) in
    let P : ℕ → Type 0 = λ n. c.args.leaf < n in
    let here = ap (λ l. slice_index_or l c.args.leaf []) (map-both items through leaves) ∙ get-mapped (λ s. through (items s)) leaves c.args.leaf c.leaf.result [] c.leaf.ensures in
    leaf-ends-ok f (C.content c.args.reading.now.collector.now) lists c.args.leaf (g.L.Handout.cut c.read_leaf.new.seat) (through (items c.leaf.result)) (subst P number c.requires.within) here c.read_leaf.result c.read_leaf.ensures.end
