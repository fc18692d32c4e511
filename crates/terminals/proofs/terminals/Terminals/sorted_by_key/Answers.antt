use Rattle.std.proofs.Common.{◌∙◌, ap}
use Rattle.terminals.specs.Sorted.{beside_keys}
use Rattle.terminals.proofs.terminals.Terminals.sorted_by_key.Goals as goal

pub returns : goal.returns
returns g c =
    let made = c.in_ok-pairs.ensures ∙ ap (beside_keys (g.K.Mapping.image c.args.key.now)) c.in_ok-items.ensures.value in
    record { sorted = c.in_ok-without_keys.ensures _ _ made c.in_ok-sort_pairs.ensures }
