use Rattle.std.proofs.Common.{◌≡◌, ◌*◌, ◌∷◌, take, length, min, ap, ◌∙◌, arith}
use Rattle.placed_sources.proofs.StepLaws.{drop-steps}
use Rattle.placed_sources.specs.Steps.{chunks}
use Rattle.placed_sources.proofs.chunks.ChunksPlaced.after_first.Goals as goal

pub returns : goal.returns
returns g c =
    let s = c.args.self in
    let items = g.S.Spliterator.items s.source in
    let within : c.min-start.result ≡ min (c.args.number * s.size) (length items) = omega (arith, c.min-start.ensures, c.saturating_mul.ensures, c.count.ensures) in
    ap (chunks s.size) c.after_first.ensures ∙ drop-steps (λ x rest. take c.args.self.size (x ∷ rest)) s.size c.args.number c.min-start.result items s.some within
