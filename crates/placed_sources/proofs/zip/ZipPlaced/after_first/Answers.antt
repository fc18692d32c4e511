use Rattle.std.specs.List.{zip}
use Rattle.std.proofs.Common.{ap₂, ◌∙◌}
use Rattle.placed_sources.proofs.ZipLaws.{drop-zip}
use Rattle.placed_sources.proofs.zip.ZipPlaced.after_first.Goals as goal

pub returns : goal.returns
returns g c =
    let s = c.args.self in
    ap₂ zip c.after_first.ensures c.after_first-2.ensures ∙ drop-zip c.args.number (g.A.Spliterator.items s.left) (g.B.Spliterator.items s.right)
