use Rattle.std.proofs.Common.{min, ap₂, sym, ◌∙◌}
use Rattle.std.proofs.lemmas.Slice.Zip.{length-zip}
use Rattle.placed_sources.proofs.zip.ZipPlaced.count.Goals as goal

pub returns : goal.returns
returns g c =
    let s = c.args.self.now in
    c.min.ensures ∙ ap₂ min c.count.ensures c.count-2.ensures ∙ sym (length-zip (g.A.Spliterator.items s.left) (g.B.Spliterator.items s.right))
