use Rattle.std.proofs.Common.{◌≡◌, ◌-◌, length, take, ap, sym, ◌∙◌, arith}
use Rattle.std.specs.Prelude.{reverse}
use Rattle.placed_sources.proofs.Reverses.{drop-reverse}
use Rattle.placed_sources.proofs.reversed.ReversedPlaced.after_first.Goals as goal

pub returns : goal.returns
returns g c =
    let items = g.S.Spliterator.items c.args.self.source in
    let left : c.saturating_sub-left.result ≡ length items - c.args.number = omega (arith, c.saturating_sub-left.ensures, c.count.ensures) in
    ap reverse (c.first.ensures ∙ ap (λ k. take k items) left) ∙ sym (drop-reverse c.args.number items)
