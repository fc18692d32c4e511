use Rattle.std.proofs.Common.{◌≡◌, ◌++◌, List, map}
use Rattle.serde_json.specs.View.{view}
use Rattle.wire_form.specs.Forms.{entry_form}
use Rattle.wire_form.specs.KnownEntries.{AreKnownEntries}
use Rattle.wire_form.proofs.entries.read_members.Given as goal

-- the forms of the entries so far and of what is left are those of all; and where all are known entries, so is what is left
abbrev pub invariant-loop-member : goal.invariant-loop-member
invariant-loop-member g l =
    let form = entry_form (λ (k : g.row.K.Denot). g.K.WireValue.form (g.K.Value.content k)) (g.W.WritesKept.form l.kept) in
    let told = entry_form g.K.WireValue.form (g.W.WritesKept.form l.kept) in
    let known = AreKnownEntries g.K.Value.is_value (g.W.ReadsKept.is_known l.kept) g.K.Value.same in
    let keys = λ (es : List (g.row.K.Denot × g.row.W-Kept.Denot)). map (λ (e : g.row.K.Denot × g.row.W-Kept.Denot). g.K.Value.content e.0) es in record {
      can_next : (goal.iterator-loop-member g).can_next l.member-iterator;
      is_finite : (goal.iterator-loop-member g).is_finite l.member-iterator;
      same : map form l.entries.entries ++ map view l.member-iterator.rest.items ≡ map form l.fn.entries.entries ++ map view l.fn.members.items;
      known : (es : List (g.row.K-Content.Denot × g.row.W-Kept.Denot)) → known (keys l.fn.entries.entries) es → map told es ≡ map view l.fn.members.items
          → (left : List (g.row.K-Content.Denot × g.row.W-Kept.Denot)) × known (keys l.entries.entries) left × (map told left ≡ map view l.member-iterator.rest.items);
    }
