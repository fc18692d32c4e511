use Rattle.std.proofs.Common.{◌≡◌, length, replicate, drop, min, sym, ap, ◌∙◌, arith}
use Rattle.std.proofs.lemmas.List.{length-replicate, drop-replicate, drop_min}
use Rattle.sources.proofs.copies.CopiesSplitPlaced.after_first.Goals as goal

pub returns : goal.returns
returns g c =
    let s = c.args.self in
    let value = g.T.Value.content s.value.now in
    let all = replicate s.left value in
    let count : length all ≡ s.left = length-replicate s.left value in
    ap (λ n. replicate n value) c.saturating_sub.ensures ∙ sym (drop-replicate c.args.number s.left value)
