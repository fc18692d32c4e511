use Rattle.std.proofs.Common.{map, ap, sym, ◌∙◌}
use Rattle.std.proofs.lemmas.List.{drop-map}
use Rattle.placed_sources.specs.Slides.{windows}
use Rattle.placed_sources.proofs.SlideLaws.{rest-windows}
use Rattle.placed_sources.proofs.windows_of.WindowsOfPlaced.after_first.Goals as goal

pub returns : goal.returns
returns g c =
    let s = c.args.self in
    let content = g.T.Value.content in
    ap (λ l. windows s.size (map content l)) c.rest_of.ensures ∙ ap (windows s.size) (sym (drop-map content c.args.number s.items.now))
    ∙ rest-windows s.size c.args.number (map content s.items.now) s.some
