use Rattle.std.proofs.Common.{sym, subst, map}
use Rattle.rayon.proofs.ListFacts.{IfOk-then}
use Rattle.terminals.specs.Sorted.{IsSortedList, by_key}
use Rattle.terminals.proofs.Beside.{sorted-keyed}
use Rattle.terminals.proofs.keys.without_keys.Goals as goal

pub returns : goal.returns
returns g c list before made sorted =
    let value = g.M.Out.OrderedValue in
    let content = g.M.Out.Value.content in
    let by = by_key (g.M.Mapping.image c.args._key.now) value.order in
    IfOk-then c.second_parts.result _ _ c.second_parts.ensures
    (λ items same. subst (λ l. IsSortedList by list (map g.T.Value.content l)) (sym same)
    (sorted-keyed content g.T.Value.content (g.M.Mapping.image c.args._key.now) g.M.Out.Ord.cmp value.order g.met.M.Out.SortedValue.cmp_is_order value.order_total list before c.args.pairs.items made (sorted g.met.M.Out.Ord.total)))
