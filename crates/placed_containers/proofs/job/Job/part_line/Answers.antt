use Rattle.std.proofs.Common.{◌≡◌, ◌≤◌, ◌∙◌, false, rules, ap, sym, subst, arith}
use Rattle.std.specs.Prelude.{Some}
use Rattle.serde_json.specs.Data.{depth}
use Rattle.serde_json.specs.View.{view}
use Rattle.serde_json.specs.Written.{has_float}
use Rattle.placed_containers.specs.OneLine.{is_one_line}
use Rattle.placed_containers.specs.Parts.{part_form}
use Rattle.placed_containers.proofs.OneLine.{compact-line}
use Rattle.placed_containers.proofs.PartForms.{part_form-shallow, part_form-plain}
use Rattle.placed_containers.proofs.job.Job.part_line.Goals as goal

pub returns-clause-one_line : goal.returns-clause-one_line
returns-clause-one_line g c =
    let job = c.args.self.now.name.now in
    let places = c.args.places in
    let inner = view c.in_ok-container.container in
    let d = view c.in_ok-value.value in
    let kept : has_float inner ≡ false = ap has_float c.in_ok-container.ensures ∙ g.met.C.WireForm.plain c.args.self.now.collector.now c.args.container in
    let plain : has_float d ≡ false = ap has_float c.in_ok-value.ensures ∙ part_form-plain job places.from places.to places.of inner kept in
    ap is_one_line (c.in_ok-to_string.ensures.text plain) ∙ compact-line d plain

pub returns-clause-told : goal.returns-clause-told
returns-clause-told g c = λ between made.
    let job = c.args.self.now.name.now in
    let places = c.args.places in
    let inner = view c.in_ok-container.container in
    let form = g.C.WireForm.form c.args.self.now.collector.now c.args.container in
    let shallow : depth inner ≤ 126 = omega (arith, ap depth c.in_ok-container.ensures, g.met.C.WireForm.shallow c.args.self.now.collector.now c.args.container, c.requires) in
    let whole = part_form job places.from places.to places.of inner in
    let deep : depth (view c.in_ok-value.value) ≤ 127 = subst (λ d. depth d ≤ 127) (sym c.in_ok-value.ensures) (part_form-shallow job places.from places.to places.of inner shallow) in
    let back = c.in_ok-to_string.ensures.reads_back deep ∙ ap Some c.in_ok-value.ensures in
    let order : places.from ≤ places.to × places.to ≤ places.of = search rules in
    (places.from, places.to, inner, order.0, order.1, back, (c.args.container, made, sym c.in_ok-container.ensures))

pub returns-clause-places : goal.returns-clause-places
returns-clause-places g c =
    let job = c.args.self.now.name.now in
    let places = c.args.places in
    let inner = view c.in_ok-container.container in
    let shallow : depth inner ≤ 126 = omega (arith, ap depth c.in_ok-container.ensures, g.met.C.WireForm.shallow c.args.self.now.collector.now c.args.container, c.requires) in
    let deep : depth (view c.in_ok-value.value) ≤ 127 = subst (λ d. depth d ≤ 127) (sym c.in_ok-value.ensures) (part_form-shallow job places.from places.to places.of inner shallow) in
    (inner, c.in_ok-to_string.ensures.reads_back deep ∙ ap Some c.in_ok-value.ensures)
