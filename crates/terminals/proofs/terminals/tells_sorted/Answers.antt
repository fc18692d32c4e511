use Rattle.std.proofs.Common.{◌∙◌, ap, sym}
use Rattle.stages.specs.Flags.{is_sorted}
use Rattle.terminals.proofs.Told.{sorted-already}
use Rattle.terminals.proofs.terminals.tells_sorted.Goals as goal

pub returns : goal.returns
returns g c told =
    let items = g.S.Item.OrderedValue in
    let sound = (g.met.S.Plumbing g.world.𝓛 g.world.𝓜 g.world.𝓡 ((λ s x. x), (λ x. x), (λ x. x), λ x. x)).flag_law c.args.stream.now in
    sorted-already items.order items.order_total (g.S.Plumbing.value c.args.stream.now) (sound.sorted (sym (c.is_sorted.ensures ∙ ap is_sorted c.flags.ensures) ∙ told))
