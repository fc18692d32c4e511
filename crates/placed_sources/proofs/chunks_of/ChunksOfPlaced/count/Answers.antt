use Rattle.std.proofs.Common.{◌∷◌, take, map, length, ◌∙◌, arith}
use Rattle.std.specs.Int.{div_ceil}
use Rattle.std.proofs.lemmas.List.{length-map}
use Rattle.std.proofs.lemmas.Grind.{div_ceil_times}
use Rattle.placed_sources.proofs.StepLaws.{count-steps}
use Rattle.placed_sources.proofs.chunks_of.ChunksOfPlaced.count.Goals as goal

pub returns : goal.returns
returns g c =
    let s = c.args.self.now in
    let content = g.T.Value.content in
    let items = map content s.items.now in
    let long = length-map s.items.now content in
    let times = div_ceil_times (length s.items.now) s.size s.some in
    c.div_ceil.ensures
    ∙ count-steps (λ x rest. take s.size (x ∷ rest)) s.size (div_ceil (length s.items.now) s.size) items s.some
    (omega (arith, times.0, long)) (omega (arith, times.1, long))
