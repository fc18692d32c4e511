use Rattle.std.proofs.Common.{◌≡◌, Option, subst, sym}
use Rattle.std.specs.Prelude.{IfOk}
use Rattle.derived_collectors.specs.Scans.{joined_to}
use Rattle.derived_collectors.specs.ScanLaws.{last-content}
use Rattle.derived_collectors.proofs.scanning.total_with.Goals as goal

pub returns-in-Some : goal.returns-in-Some
returns-in-Some g c =
    let content = g.T.Value.content in
    let join = g.O.Operator.join c.args.operator.now in
    let Made : Option g.row.T-Content.Denot → Type 0 = λ o. IfOk c.join.result (λ total. content total ≡ joined_to join o (content c.args.x.now)) in
    subst Made (sym (last-content content c.args.totals.now c.in-Some.before.now c.in-Some.ensures.value)) c.join.ensures
