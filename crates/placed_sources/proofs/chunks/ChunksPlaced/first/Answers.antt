use Rattle.std.proofs.Common.{◌≡◌, ◌*◌, ◌∷◌, take, length, min, ap, ◌∙◌, arith}
use Rattle.placed_sources.proofs.StepLaws.{take-steps, near-chunk}
use Rattle.placed_sources.specs.Steps.{chunks}
use Rattle.placed_sources.proofs.chunks.ChunksPlaced.first.Goals as goal

pub returns : goal.returns
returns g c =
    let s = c.args.self in
    let items = g.S.Spliterator.items s.source in
    let within : c.min-end.result ≡ min (c.args.most * s.size) (length items) = omega (arith, c.min-end.ensures, c.saturating_mul.ensures, c.count.ensures) in
    ap (chunks s.size) c.first.ensures ∙ take-steps (λ x rest. take c.args.self.size (x ∷ rest)) s.size c.args.most c.min-end.result items s.some (near-chunk c.args.self.size) within
