use Rattle.std.proofs.Common.{◌≡◌, ◌-◌, length, map, take, min, sym, ap, ◌∙◌, arith}
use Rattle.std.proofs.lemmas.List.{length-map, take-map, take_min}
use Rattle.sources.specs.Sections.{section, length-section, take-section}
use Rattle.sources.proofs.deque.DequeSplitPlaced.first.Goals as goal

pub returns : goal.returns
returns g c =
    let s = c.args.self in
    let content = g.T.Value.content in
    let all = section s.from s.to s.items.now.items in
    let number = c.min-number.result in
    let counted : length all ≡ s.to - s.from = length-section s.from s.to s.items.now.items s.ordered s.within in
    let cut : number ≡ min c.args.most (length all) = omega (arith, c.min-number.ensures, c.count.ensures, length-map all content) in
    ap (map content) (sym (take-section s.from s.to number s.items.now.items (omega arith)) ∙ ap (λ n. take n all) cut ∙ take_min c.args.most all)
    ∙ sym (take-map content c.args.most all)
