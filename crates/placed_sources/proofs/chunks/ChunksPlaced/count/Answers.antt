use Rattle.std.proofs.Common.{◌∷◌, take, ◌∙◌, arith}
use Rattle.std.specs.Int.{div_ceil}
use Rattle.std.proofs.lemmas.Grind.{div_ceil_times}
use Rattle.placed_sources.proofs.StepLaws.{count-steps}
use Rattle.placed_sources.proofs.chunks.ChunksPlaced.count.Goals as goal

pub returns : goal.returns
returns g c =
    let s = c.args.self.now in
    let times = div_ceil_times c.count.result s.size s.some in
    c.div_ceil.ensures
    ∙ count-steps (λ x rest. take c.args.self.now.size (x ∷ rest)) s.size (div_ceil c.count.result s.size) (g.S.Spliterator.items s.source) s.some
    (omega (arith, times.0, c.count.ensures)) (omega (arith, times.1, c.count.ensures))
