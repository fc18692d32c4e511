use Rattle.std.proofs.Common.{◌≡◌, length, arith, map, drop, min, ap, ◌∙◌, sym}
use Rattle.std.proofs.lemmas.List.{drop-map}
use Rattle.barriers.proofs.Fronts.{drop-at_most}
use Rattle.barriers.proofs.skip.SkipBarrier.apply.Goals as goal

pub returns-clause-value : goal.returns-clause-value
returns-clause-value g c =
    let number = c.args.self.now.number in
    let items = c.args.items.items in
    let whole : c.len.result ≡ length items = omega arith in
    ap (map g.T.Value.content) (c.drop_front.ensures ∙ ap (λ n. drop n items) (c.min-number.ensures ∙ ap (λ n. min n number) whole) ∙ drop-at_most number items)
    ∙ sym (drop-map g.T.Value.content number items)
