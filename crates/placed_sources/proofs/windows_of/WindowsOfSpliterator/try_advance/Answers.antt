use Rattle.std.proofs.Common.{◌≤◌, ◌∷◌, [], length, map, refl, ap, ap₂, sym, append-nil, ◌∙◌, arith}
use Rattle.std.proofs.lemmas.List.{length-map, take-map, drop-map}
use Rattle.placed_sources.specs.Slides.{windows}
use Rattle.placed_sources.proofs.SlideLaws.{no-windows, first-window}
use Rattle.placed_sources.proofs.windows_of.WindowsOfSpliterator.try_advance.Goals as goal

pub returns-then-items-self-clause-ok : goal.returns-then-items-self-clause-ok
returns-then-items-self-clause-ok g c =
    let s = c.args.self.now in
    let items = map g.T.Value.content s.items.now in
    let long = length-map s.items.now g.T.Value.content in
    let none = no-windows s.size items items [] (sym (append-nil items)) (omega (arith, long, c.if-items-self.true)) (λ short. refl) in
    (none, none)

pub returns-clause-ok : goal.returns-clause-ok
returns-clause-ok g c =
    let s = c.args.self.now in
    let content = g.T.Value.content in
    let items = s.items.now in
    let enough : s.size ≤ length (map content items) = omega (arith, length-map items content, c.if-items-self.false) in
    first-window s.size (map content items) s.some enough
    ∙ ap₂ (λ w r. w ∷ windows s.size r)
    (take-map content s.size items ∙ ap (map content) (sym c.split_at.ensures.front))
    (drop-map content 1 items ∙ ap (map content) (sym c.split_at-2.ensures.back))
