use Rattle.std.proofs.Common.{◌≡◌, ◌*◌, length, min, ap, ◌∙◌, arith}
use Rattle.placed_sources.proofs.StepLaws.{drop-steps}
use Rattle.placed_sources.specs.Steps.{every}
use Rattle.placed_sources.proofs.step_by.StepByPlaced.after_first.Goals as goal

pub returns : goal.returns
returns g c =
    let s = c.args.self in
    let items = g.S.Spliterator.items s.source in
    let within : c.min-start.result ≡ min (c.args.number * s.step) (length items) = omega (arith, c.min-start.ensures, c.saturating_mul.ensures, c.count.ensures) in
    ap (every s.step) c.after_first.ensures ∙ drop-steps (λ x rest. x) s.step c.args.number c.min-start.result items s.some within
