use Rattle.std.proofs.Common.{subst}
use Rattle.std.proofs.lemmas.List.Sorted.{ranks_by}
use Rattle.collectors.specs.Grouping.{contents}
use Rattle.terminals.specs.Bounds.{IsBehind}
use Rattle.terminals.specs.FirstSorted.{key_below}
use Rattle.terminals.proofs.Behind.{add-behind}
use Rattle.terminals.proofs.first_pairs.FirstPairs.key_inside.Goals as goal

pub returns-then-stands_behind : goal.returns-then-stands_behind
returns-then-stands_behind g c =
    let value = g.J.OrderedValue in
    let below = key_below value.order in
    let seen = contents g.J.Value.content g.T.Value.content c.args.self.now.pairs.items in
    let x = g.T.Value.content c.args.item.now in
    add-behind below (ranks_by value.order_total (λ p. p.0)) c.args.number seen (g.K.Mapping.image c.args.key.now x, x)
    (subst (λ k. IsBehind below c.args.number (k, x) seen) c.in_ok-image.ensures (c.stands_behind.ensures c.if-stands_behind.true x))
