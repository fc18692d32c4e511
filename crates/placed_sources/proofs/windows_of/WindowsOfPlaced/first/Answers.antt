use Rattle.std.proofs.Common.{◌≡◌, ◌+◌, ◌-◌, map, length, min, ap, sym, ◌∙◌, arith}
use Rattle.std.proofs.lemmas.List.{length-map, take-map}
use Rattle.placed_sources.specs.Slides.{windows}
use Rattle.placed_sources.proofs.SlideLaws.{first-windows}
use Rattle.placed_sources.proofs.windows_of.WindowsOfPlaced.first.Goals as goal

pub returns : goal.returns
returns g c =
    let s = c.args.self in
    let content = g.T.Value.content in
    let items = map content s.items.now in
    let at : c.min-end.result ≡ min (c.args.most + (s.size - 1)) (length items) = omega (arith, c.min-end.ensures, c.saturating_add.ensures, length-map s.items.now content) in
    ap (λ l. windows s.size (map content l)) c.front_of.ensures ∙ ap (windows s.size) (sym (take-map content c.min-end.result s.items.now))
    ∙ first-windows s.size c.args.most c.min-end.result items s.some at
