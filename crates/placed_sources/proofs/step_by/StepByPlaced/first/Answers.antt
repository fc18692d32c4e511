use Rattle.std.proofs.Common.{◌≡◌, ◌*◌, length, min, refl, ap, ◌∙◌, arith}
use Rattle.placed_sources.proofs.StepLaws.{take-steps}
use Rattle.placed_sources.specs.Steps.{every}
use Rattle.placed_sources.proofs.step_by.StepByPlaced.first.Goals as goal

pub returns : goal.returns
returns g c =
    let s = c.args.self in
    let items = g.S.Spliterator.items s.source in
    let within : c.min-end.result ≡ min (c.args.most * s.step) (length items) = omega (arith, c.min-end.ensures, c.saturating_mul.ensures, c.count.ensures) in
    ap (every s.step) c.first.ensures ∙ take-steps (λ x rest. x) s.step c.args.most c.min-end.result items s.some (λ x xs k. refl) within
