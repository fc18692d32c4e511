use Rattle.std.proofs.Common.{ap, sym, ◌∙◌}
use Rattle.sources.specs.Halves.{capped_count}
use Rattle.sources.specs.Iterations.{first_of, length-iterates}
use Rattle.sources.proofs.iterated.IteratedSpliterator.estimate_size.Goals as goal

pub returns : goal.returns
returns g c =
    let s = c.args.self.now in
    let image = g.M.Mapping.image s.step in
    c.capped.ensures ∙ ap capped_count (sym (length-iterates image (first_of image s.is_begun (g.T.Value.content s.latest)) s.left))
