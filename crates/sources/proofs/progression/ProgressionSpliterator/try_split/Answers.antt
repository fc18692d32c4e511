use Rattle.std.proofs.Common.{◌/◌, take, drop, sym, ap, ◌∙◌, arith}
use Rattle.sources.specs.Progressions.{progression}
use Rattle.sources.specs.ProgressionLaws.{length-progression}
use Rattle.sources.proofs.progression.ProgressionSpliterator.try_split.Goals as goal

pub returns : goal.returns
returns c =
    let p = c.args.self.now in
    let nonzero = c.if-half-eq0.false in
    let count = length-progression p.next p.step p.left in
    let at_half = ap (λ n. n / 2) count in
    let items = progression p.next p.step p.left in
    (omega (arith, count), c.first-part.ensures ∙ ap (λ k. take k items) (sym at_half), c.after_first.ensures ∙ ap (λ k. drop k items) (sym at_half))
