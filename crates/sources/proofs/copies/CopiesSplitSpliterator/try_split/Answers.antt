use Rattle.std.proofs.Common.{◌≡◌, length, replicate, take, drop, ◌/◌, ap, sym, ◌∙◌, arith}
use Rattle.std.proofs.lemmas.List.{length-replicate, take-replicate, drop-replicate}
use Rattle.sources.proofs.copies.CopiesSplitSpliterator.try_split.Goals as goal

pub returns : goal.returns
returns g c =
    let s = c.args.self.now in
    let value = g.T.Value.content s.value.now in
    let count : length (replicate s.left value) ≡ s.left = length-replicate s.left value in
    let half : s.left / 2 ≡ length (replicate s.left value) / 2 = ap (λ n. n / 2) (sym count) in
    let nonzero = c.if-half-eq0.false in (
      omega arith,
      sym (take-replicate (s.left / 2) s.left value (omega arith)) ∙ ap (λ n. take n (replicate s.left value)) half,
      sym (drop-replicate (s.left / 2) s.left value) ∙ ap (λ n. drop n (replicate s.left value)) half,
    )
