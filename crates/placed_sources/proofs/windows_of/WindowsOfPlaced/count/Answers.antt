use Rattle.std.proofs.Common.{map, arith}
use Rattle.std.proofs.lemmas.List.{length-map}
use Rattle.placed_sources.proofs.SlideLaws.{count-windows}
use Rattle.placed_sources.proofs.windows_of.WindowsOfPlaced.count.Goals as goal

pub returns : goal.returns
returns g c =
    let s = c.args.self.now in
    let items = map g.T.Value.content s.items.now in
    omega (arith, c.saturating_sub.ensures, length-map s.items.now g.T.Value.content, count-windows s.size items s.some)
