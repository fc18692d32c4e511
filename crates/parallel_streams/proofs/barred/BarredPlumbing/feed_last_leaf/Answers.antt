use Rattle.std.proofs.Common.{◌≡◌, List, OnOk, Some, flat_map, slice_get, subst, sym, ap, ◌∙◌}
use Rattle.parallel_streams.specs.Cuts.{cut_at}
use Rattle.parallel_streams.specs.Ends.{ends_of}
use Rattle.parallel_streams.specs.ProgressLaws.{part-at}
use Rattle.parallel_streams.proofs.barred.BarredPlumbing.feed_last_leaf.Goals as goal

pub returns-in-Some : goal.returns-in-Some
returns-in-Some g c =
    let p = c.args.progress.now in
    let content = g.U.Item.Value.content in
    let through = flat_map (g.G.Stage.expand c.args.stage.now) in
    let part = c.part-items.result.now in
    let Q : List g.row.U-Item.Denot → Type 0 = λ l. slice_get (cut_at 0 (ends_of c.in-Some.listed.places) l) c.args.leaf ≡ Some part in
    let found = subst Q c.deref.ensures.value c.part-items.ensures in
    let here = part-at content through (g.U.Plumbing.parts c.args.self.now.upstream p.before) p.listed c.in-Some.listed c.args.leaf part c.in-Some.is found ∙ ap through (sym c.new.ensures) in
    let P : List _ → Type 0 = λ l. OnOk c.feed_whole.result (g.K.Sink.takes c.args.sink.now l c.feed_whole.new.sink) in
    subst P (sym here) c.feed_whole.ensures.fed
