use Rattle.std.proofs.Common.{◌∙◌, List, map, sym, ap, subst}
use Rattle.wire_form.specs.KnownEntries.{AreKnownEntries}
use Rattle.wire_form.proofs.Known.{array-items, items_of-same}
use Rattle.wire_form.proofs.entries.read_entries.Goals as goal

pub returns-clause-known : goal.returns-clause-known
returns-clause-known g c = λ es known same.
    let kept = c.args.kept.now in
    let keys = λ (es : List (g.row.K.Denot × g.row.W-Kept.Denot)). map (λ (e : g.row.K.Denot × g.row.W-Kept.Denot). g.K.Value.content e.0) es in
    let are_known = AreKnownEntries g.K.Value.is_value (g.W.ReadsKept.is_known kept) g.K.Value.same in
    let before = subst (λ (ks : List g.row.K-Content.Denot). are_known ks es) (sym (ap keys c.requires.none)) known in
    c.read_members.ensures.known es before (items_of-same _ _ (array-items (same ∙ sym c.in_ok-members.ensures.form)))
