use Rattle.std.proofs.Common.{◌≡◌, length, replicate, take, min, sym, ap, ◌∙◌, arith}
use Rattle.std.proofs.lemmas.List.{length-replicate, take-replicate, take_min}
use Rattle.sources.proofs.copies.CopiesSplitPlaced.first.Goals as goal

pub returns : goal.returns
returns g c =
    let s = c.args.self in
    let value = g.T.Value.content s.value.now in
    let all = replicate s.left value in
    let count : length all ≡ s.left = length-replicate s.left value in
    let cut : c.min.result ≡ min c.args.most (length all) = omega (arith, c.min.ensures) in
    sym (take-replicate c.min.result s.left value (omega (arith, c.min.ensures))) ∙ ap (λ n. take n all) cut ∙ take_min c.args.most all
