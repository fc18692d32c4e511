use Rattle.std.proofs.Common.{◌≡◌, ◌∙◌, ◌<◌, ap, arith, get_or, length, subst, suc, sym}
use Rattle.std.proofs.lemmas.Bool.{ltb-true}
use Rattle.collectors.specs.Grouping.{contents}
use Rattle.terminals.specs.Bounds.{IsBounded}
use Rattle.terminals.specs.FirstSorted.{key_below}
use Rattle.terminals.proofs.Behind.{behind-bound}
use Rattle.terminals.proofs.first_pairs.FirstPairs.stands_behind.Goals as goal

pub returns-in-Some-get : goal.returns-in-Some-get
returns-in-Some-get g c h x =
    let last = c.in-Some.last in
    let next : suc last ≡ c.args.number = omega (arith, c.in-Some.ensures.0, c.in-Some.ensures.1) in
    let below = key_below g.J.OrderedValue.order in
    let first = c.args.self.now in
    let found = c.in-Some-get.ensures.lookup in
    behind-bound g.J.Value.content g.T.Value.content below c.args.number last first.pairs.items c.in-Some-get.field-0.now (g.J.Value.content c.args.key.now, x) c.is_better.result
    (subst (λ n. IsBounded below n (contents g.J.Value.content g.T.Value.content first.pairs.items)) c.if-self-number.true first.bound)
    next
    (subst (λ l. last < length l) c.deref.ensures.value (ltb-true _ _ (sym found.0)))
    (found.1 ∙ ap (λ l. get_or l last c.in-Some-get.field-0.now) c.deref.ensures.value)
    c.is_better.ensures h
