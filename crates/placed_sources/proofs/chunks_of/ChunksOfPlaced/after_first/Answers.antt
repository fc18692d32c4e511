use Rattle.std.proofs.Common.{◌≡◌, ◌*◌, ◌∷◌, take, map, length, min, ap, sym, ◌∙◌, arith}
use Rattle.std.proofs.lemmas.List.{length-map, drop-map}
use Rattle.placed_sources.specs.Steps.{chunks}
use Rattle.placed_sources.proofs.StepLaws.{drop-steps}
use Rattle.placed_sources.proofs.chunks_of.ChunksOfPlaced.after_first.Goals as goal

pub returns : goal.returns
returns g c =
    let s = c.args.self in
    let content = g.T.Value.content in
    let items = map content s.items.now in
    let long = length-map s.items.now content in
    let at : c.min-start.result ≡ min (c.args.number * s.size) (length items) = omega (arith, c.min-start.ensures, c.saturating_mul.ensures, long) in
    ap (λ l. chunks s.size (map content l)) c.rest_of.ensures ∙ ap (chunks s.size) (sym (drop-map content c.min-start.result s.items.now))
    ∙ drop-steps (λ x rest. take s.size (x ∷ rest)) s.size c.args.number c.min-start.result items s.some at
