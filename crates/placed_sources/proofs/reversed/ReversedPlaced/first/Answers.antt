use Rattle.std.proofs.Common.{◌≡◌, ◌-◌, length, drop, ap, sym, ◌∙◌, arith}
use Rattle.std.specs.Prelude.{reverse}
use Rattle.placed_sources.proofs.Reverses.{take-reverse}
use Rattle.placed_sources.proofs.reversed.ReversedPlaced.first.Goals as goal

pub returns : goal.returns
returns g c =
    let items = g.S.Spliterator.items c.args.self.source in
    let before : c.saturating_sub-before.result ≡ length items - c.args.most = omega (arith, c.saturating_sub-before.ensures, c.count.ensures) in
    ap reverse (c.after_first.ensures ∙ ap (λ k. drop k items) before) ∙ sym (take-reverse c.args.most items)
