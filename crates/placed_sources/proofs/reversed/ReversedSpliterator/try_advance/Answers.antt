use Rattle.std.proofs.Common.{◌≡◌, ◌-◌, ◌∷◌, length, take, drop, ap, sym, ◌∙◌}
use Rattle.std.specs.Prelude.{reverse}
use Rattle.placed_sources.proofs.Reverses.{last-first}
use Rattle.placed_sources.proofs.reversed.ReversedSpliterator.try_advance.Goals as goal

pub returns-clause-ok : goal.returns-clause-ok
returns-clause-ok g c =
    let items = g.S.Spliterator.items c.args.self.now.source in
    let x = g.S.Item.Value.content c.in-Some.item in
    let rest = g.S.Spliterator.items c.try_advance.new.self in
    let count = ap (λ n. n - 1) c.count-count.ensures in
    let read = rw c.in-Some.is at c.in_ok-item.ensures.ok in
    let last : drop (length items - 1) items ≡ x ∷ rest = ap (λ k. drop k items) (sym count) ∙ sym c.after_first-last.ensures ∙ read in
    let front = c.first-self.ensures ∙ ap (λ k. take k items) count in
    last-first items x rest last ∙ ap (λ l. x ∷ reverse l) (sym front)
