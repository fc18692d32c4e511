use Rattle.std.proofs.Common.{List, [], OnOk, flat_map, subst, sym, ◌∙◌, ap}
use Rattle.std.specs.List.{slice_index_or}
use Rattle.split_tree.specs.Plan.{leaves_of}
use Rattle.parallel_streams.specs.LeafLaws.{map-both, get-mapped}
use Rattle.parallel_streams.proofs.source.SourcePlumbing.feed_last_leaf.Goals as goal

pub returns : goal.returns
returns g c =
    let leaves = leaves_of c.args.progress.now.plan in
    let items = g.S.Spliterator.items in
    let through = flat_map (g.G.Stage.expand c.args.stage.now) in
    let here = ap (λ l. slice_index_or l c.args.leaf []) (map-both items through leaves) ∙ get-mapped (λ s. through (items s)) leaves c.args.leaf c.leaf.result [] c.leaf.ensures in
    let P : List _ → Type 0 = λ l. OnOk c.feed_whole.result (g.K.Sink.takes c.args.sink.now l c.feed_whole.new.sink) in
    subst P (sym here) c.feed_whole.ensures.fed
