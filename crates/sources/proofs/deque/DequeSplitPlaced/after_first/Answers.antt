use Rattle.std.proofs.Common.{◌≡◌, ◌-◌, length, map, drop, min, sym, ap, ◌∙◌, arith}
use Rattle.std.proofs.lemmas.List.{length-map, drop-map, drop_min}
use Rattle.sources.specs.Sections.{section, length-section, drop-section}
use Rattle.sources.proofs.deque.DequeSplitPlaced.after_first.Goals as goal

pub returns : goal.returns
returns g c =
    let s = c.args.self in
    let content = g.T.Value.content in
    let all = section s.from s.to s.items.now.items in
    let number = c.min-number.result in
    let counted : length all ≡ s.to - s.from = length-section s.from s.to s.items.now.items s.ordered s.within in
    let cut : number ≡ min c.args.number (length all) = omega (arith, c.min-number.ensures, c.count.ensures, length-map all content) in
    ap (map content) (sym (drop-section s.from s.to number s.items.now.items (omega arith)) ∙ ap (λ n. drop n all) cut ∙ drop_min c.args.number all)
    ∙ sym (drop-map content c.args.number all)
