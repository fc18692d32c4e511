use Rattle.std.proofs.Common.{◌∙◌, arith}
use Rattle.std.specs.Int.{div_ceil}
use Rattle.std.proofs.lemmas.Grind.{div_ceil_times}
use Rattle.placed_sources.proofs.StepLaws.{count-steps}
use Rattle.placed_sources.proofs.step_by.StepByPlaced.count.Goals as goal

pub returns : goal.returns
returns g c =
    let s = c.args.self.now in
    let times = div_ceil_times c.count.result s.step s.some in
    c.div_ceil.ensures
    ∙ count-steps (λ x rest. x) s.step (div_ceil c.count.result s.step) (g.S.Spliterator.items s.source) s.some
    (omega (arith, times.0, c.count.ensures)) (omega (arith, times.1, c.count.ensures))
