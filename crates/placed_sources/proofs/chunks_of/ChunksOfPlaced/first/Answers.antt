use Rattle.std.proofs.Common.{◌≡◌, ◌*◌, ◌∷◌, take, map, length, min, ap, sym, ◌∙◌, arith}
use Rattle.std.proofs.lemmas.List.{length-map, take-map}
use Rattle.placed_sources.specs.Steps.{chunks}
use Rattle.placed_sources.proofs.StepLaws.{take-steps, near-chunk}
use Rattle.placed_sources.proofs.chunks_of.ChunksOfPlaced.first.Goals as goal

pub returns : goal.returns
returns g c =
    let s = c.args.self in
    let content = g.T.Value.content in
    let items = map content s.items.now in
    let long = length-map s.items.now content in
    let at : c.min-end.result ≡ min (c.args.most * s.size) (length items) = omega (arith, c.min-end.ensures, c.saturating_mul.ensures, long) in
    ap (λ l. chunks s.size (map content l)) c.front_of.ensures ∙ ap (chunks s.size) (sym (take-map content c.min-end.result s.items.now))
    ∙ take-steps (λ x rest. take s.size (x ∷ rest)) s.size c.args.most c.min-end.result items s.some (near-chunk s.size) at
