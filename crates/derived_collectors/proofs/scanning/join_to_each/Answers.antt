use Rattle.std.proofs.Common.{map, ap, sym, ◌∙◌, arith}
use Rattle.std.specs.Option.{option_copied}
use Rattle.derived_collectors.specs.Scans.{joined_to}
use Rattle.derived_collectors.specs.ScanLaws.{last-content, last-none, joined_to-none}
use Rattle.derived_collectors.proofs.Joined.{written-next, written-all}
use Rattle.derived_collectors.proofs.scanning.join_to_each.Goals as goal

pub returns-in_default : goal.returns-in_default
returns-in_default g c =
    let content = g.T.Value.content in
    let join = g.O.Operator.join c.args.operator.now in
    let later = map content c.args.later.now in
    sym (ap (λ o. map (joined_to join o) later) (last-none content c.args.totals.now (sym (ap option_copied c.in_default.is) ∙ c.last.ensures.value)) ∙ joined_to-none join later)

pub loop-x-preserved : goal.loop-x-preserved
loop-x-preserved g c =
    let content = g.T.Value.content in
    let join = g.O.Operator.join c.args.operator.now in
    let l = c.loop-x in
    written-next content (join (content c.in-Some.total.now)) c.args.later.now l.later l.x-index c.x-item.result c.in_ok-x.field-0
    (omega (arith, c.loop-x-test.true, l.auto.later)) c.x-item.is l.invariant.0 l.invariant.1
    (c.in_ok-x.ensures ∙ ap (λ z. join (content c.in-Some.total.now) (content z)) (sym c.x-item.is))

pub returns : goal.returns
returns g c =
    let content = g.T.Value.content in
    let join = g.O.Operator.join c.args.operator.now in
    let l = c.loop-x in
    let total = content c.in-Some.total.now in
    written-all content (join total) c.args.later.now l.later l.x-index (omega (arith, c.loop-x-test.false, l.auto.later)) l.auto.later l.invariant.0
    ∙ ap (λ o. map (joined_to join o) (map content c.args.later.now)) (sym (last-content content c.args.totals.now c.in-Some.total.now c.in-Some.ensures.value))
