use Rattle.terminals.proofs.OneContent.{sorted-moved}
use Rattle.terminals.proofs.ordering.promise_contents.Goals as goal

pub returns : goal.returns
returns g c list =
    let value = g.T.OrderedValue in
    sorted-moved value.order value.order_total g.T.Value.same g.met.T.Value.same_decides g.met.T.OrderedValue.order_ties g.T.Value.content g.T.Ord.cmp g.met.T.SortedValue.cmp_is_order
    list c.args._sorted.now.items
