use Rattle.std.specs.List.{zip}
use Rattle.std.proofs.Common.{ap₂, ◌∙◌}
use Rattle.placed_sources.proofs.ZipLaws.{take-zip}
use Rattle.placed_sources.proofs.zip.ZipPlaced.first.Goals as goal

pub returns : goal.returns
returns g c =
    let s = c.args.self in
    ap₂ zip c.first.ensures c.first-2.ensures ∙ take-zip c.args.most (g.A.Spliterator.items s.left) (g.B.Spliterator.items s.right)
