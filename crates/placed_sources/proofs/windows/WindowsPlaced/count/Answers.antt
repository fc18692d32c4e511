use Rattle.std.proofs.Common.{arith}
use Rattle.placed_sources.proofs.SlideLaws.{count-windows}
use Rattle.placed_sources.proofs.windows.WindowsPlaced.count.Goals as goal

pub returns : goal.returns
returns g c =
    let s = c.args.self.now in
    let items = g.S.Spliterator.items s.source in
    omega (arith, c.saturating_sub.ensures, c.count.ensures, count-windows s.size items s.some)
