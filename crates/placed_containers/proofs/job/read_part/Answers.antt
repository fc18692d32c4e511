use Rattle.std.proofs.Common.{◌∙◌, sym, subst}
use Rattle.wire_form.specs.Forms.{IsFormOf}
use Rattle.placed_containers.proofs.PartForms.{part_form-container, some-same}
use Rattle.placed_containers.proofs.job.read_part.Goals as goal

pub returns-in-Err-clause-known : goal.returns-in-Err-clause-known
returns-in-Err-clause-known g c = λ between n told.
    let C = g.C.Collector in
    let it = c.args.job.now.collector.now in
    let tells = IsFormOf g.C.Item.Value.is_value (C.content it) (C.empty it) (C.add it) (g.C.WireForm.form it) in
    let list = between told.0 told.1 in
    let same = part_form-container (some-same (sym c.in_ok-places.ensures.form ∙ told.5)) in
    c.container_fault.ensures (c.in-Err.ensures.known list (subst (tells list) (sym same) told.6))
