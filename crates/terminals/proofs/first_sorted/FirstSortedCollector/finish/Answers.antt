use Rattle.std.proofs.Common.{◌∙◌}
use Rattle.terminals.proofs.Inserted.{front-kept}
use Rattle.terminals.proofs.first_sorted.FirstSortedCollector.finish.Goals as goal

pub returns : goal.returns
returns g c = λ l values made.
    let value = g.K.Out.OrderedValue in
    front-kept g.K.Out.Value.content g.T.Value.content value.order (g.K.Mapping.image c.args.self.now.key) value.order_total c.args.self.now.number l _ _
    (c.in_ok-keep_first.ensures.first ∙ made) c.in_ok-second_parts.ensures
