use Rattle.std.proofs.Common.{ap, ◌∙◌}
use Rattle.placed_sources.specs.Slides.{windows}
use Rattle.placed_sources.proofs.SlideLaws.{rest-windows}
use Rattle.placed_sources.proofs.windows.WindowsPlaced.after_first.Goals as goal

pub returns : goal.returns
returns g c =
    let s = c.args.self in
    ap (windows s.size) c.after_first.ensures ∙ rest-windows s.size c.args.number (g.S.Spliterator.items s.source) s.some
