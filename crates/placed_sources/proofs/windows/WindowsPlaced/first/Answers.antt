use Rattle.std.proofs.Common.{◌≡◌, ◌+◌, ◌-◌, length, min, ap, ◌∙◌, arith}
use Rattle.placed_sources.specs.Slides.{windows}
use Rattle.placed_sources.proofs.SlideLaws.{first-windows}
use Rattle.placed_sources.proofs.windows.WindowsPlaced.first.Goals as goal

pub returns : goal.returns
returns g c =
    let s = c.args.self in
    let items = g.S.Spliterator.items s.source in
    let within : c.min-end.result ≡ min (c.args.most + (s.size - 1)) (length items) = omega (arith, c.min-end.ensures, c.saturating_add.ensures, c.count.ensures) in
    ap (windows s.size) c.first.ensures ∙ first-windows s.size c.args.most c.min-end.result items s.some within
