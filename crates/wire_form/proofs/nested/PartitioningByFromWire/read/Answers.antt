use Rattle.std.proofs.Common.{rules, filter}
use Rattle.serde_json.specs.View.{view}
use Rattle.collectors.specs.NestedLaws.{add_passing, fails}
use Rattle.wire_form.proofs.KnownNested.{known-first, known-second, known-passing}
use Rattle.wire_form.proofs.nested.PartitioningByFromWire.read.Goals as goal

pub returns-in_err-no-2-clause-known : goal.returns-in_err-no-2-clause-known
returns-in_err-no-2-clause-known g c = λ l h.
    let D = g.D.Collector in
    let d = c.args.self.now.downstream in
    let test = g.P.Test.holds c.args.self.now.test in
    let form = g.D.WireForm.form d in
    let value = g.D.Item.Value.is_value in
    let no = known-first value (D.content d) (D.content d) (D.empty d) (D.empty d) (add_passing (fails test) (D.empty d) (D.add d)) (add_passing test (D.empty d) (D.add d)) form form l
    (view c.in_ok-no.no) (view c.in_ok-no.yes) (view c.args.value) c.in_ok-no.ensures.form ((h.0.no, h.0.yes), h.1, h.2) in
    let memory = c.in_err-no-2.ensures.known (filter (fails test) l) (known-passing value (fails test) (D.content d) (D.empty d) (D.add d) form l (view c.in_ok-no.no) no) in
    search rules

pub returns-in_err-yes-clause-known : goal.returns-in_err-yes-clause-known
returns-in_err-yes-clause-known g c = λ l h.
    let D = g.D.Collector in
    let d = c.args.self.now.downstream in
    let test = g.P.Test.holds c.args.self.now.test in
    let form = g.D.WireForm.form d in
    let value = g.D.Item.Value.is_value in
    let yes = known-second value (D.content d) (D.content d) (D.empty d) (D.empty d) (add_passing (fails test) (D.empty d) (D.add d)) (add_passing test (D.empty d) (D.add d)) form form l
    (view c.in_ok-no.no) (view c.in_ok-no.yes) (view c.args.value) c.in_ok-no.ensures.form ((h.0.no, h.0.yes), h.1, h.2) in
    let memory = c.in_err-yes.ensures.known (filter test l) (known-passing value test (D.content d) (D.empty d) (D.add d) form l (view c.in_ok-no.yes) yes) in
    search rules
