use Rattle.std.proofs.Common.{◌≡◌, ◌++◌, map}
use Rattle.serde_json.specs.View.{view}
use Rattle.wire_form.specs.Forms.{entry_form}
use Rattle.wire_form.proofs.entries.write_entries.Given as goal

-- the forms of what was written and of what is left are those of all
abbrev pub invariant-loop-entry : goal.invariant-loop-entry
invariant-loop-entry g l =
    let form = entry_form (λ (k : g.row.K.Denot). g.K.WireValue.form (g.K.Value.content k)) (g.W.WritesKept.form l.kept) in
    (map view l.written.items ++ map form l.entry-iterator ≡ map form l.fn.entries.entries)
