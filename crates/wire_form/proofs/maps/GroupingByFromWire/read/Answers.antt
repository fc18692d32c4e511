use Rattle.std.proofs.Common.{◌∙◌, rules, map, ap}
use Rattle.serde_json.specs.Data.{array}
use Rattle.serde_json.specs.View.{items_of}
use Rattle.wire_form.specs.Forms.{entry_form}
use Rattle.wire_form.proofs.Members.{map-map}
use Rattle.wire_form.proofs.EntriesRead.{known-groups}
use Rattle.wire_form.proofs.maps.GroupingByFromWire.read.Goals as goal

pub returns-in_err-read_entries-clause-known : goal.returns-in_err-read_entries-clause-known
returns-in_err-read_entries-clause-known g c = λ l h.
    let D = g.D.Collector in
    let it = c.args.self.now in
    let d = it.downstream in
    let of = g.K.Out.Value.content in
    let told = entry_form g.K.Out.WireValue.form (g.D.WireForm.form d) in
    let seen : g.row.K-Out.Denot × g.row.D-Acc.Denot → g.row.K-Out-Content.Denot × g.row.D-Acc.Denot = λ e. (of e.0, e.1) in
    let entries = h.0.entries.entries in
    let known = known-groups g.K.Out.Value.same g.met.K.Out.Value.same_decides g.K.Out.Value.is_value of (D.content d) (D.empty d) (D.add d) g.D.Item.Value.is_value
    (g.K.Mapping.image it.key) (g.met.K.Mapping.images_are_values it.key) entries l h.1.0 h.1.1 in
    let memory = c.in_err-read_entries.ensures.known (map seen entries) known (ap (λ ds. array (items_of ds)) (map-map told seen entries) ∙ h.2) in
    search rules
