use Rattle.terminals.proofs.Inserted.{sorted-inserted}
use Rattle.terminals.proofs.first_pairs.promise_sorted.Goals as goal

pub returns : goal.returns
returns g c list sorted =
    let value = g.J.OrderedValue in
    sorted-inserted g.J.Value.content g.T.Value.content g.J.Ord.cmp value.order g.met.J.SortedValue.cmp_is_order value.order_total
    list c.args._sorted.now.items (sorted g.met.J.Ord.total)
