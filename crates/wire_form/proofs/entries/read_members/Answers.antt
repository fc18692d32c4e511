use Rattle.std.proofs.Common.{◌≡◌, ◌∙◌, ◌++◌, ◌∷◌, [], List, rules, map, sym, ap, subst, arith}
use Rattle.std.proofs.lemmas.Grind.{common_steps}
use Rattle.std.proofs.lemmas.List.Elements.{All-head}
use Rattle.serde_json.specs.View.{view}
use Rattle.wire_form.specs.Forms.{entry_form}
use Rattle.wire_form.specs.KnownEntries.{AreKnownEntries, IsKnownEntry}
use Rattle.wire_form.proofs.EntriesRead.{apart-before, first-left, keys-told, known-more}
use Rattle.wire_form.proofs.entries.read_members.Goals as goal

pub returns-in_err-read_entry-clause-known : goal.returns-in_err-read_entry-clause-known
returns-in_err-read_entry-clause-known g c = λ es known same.
    let kept = c.args.kept.now in
    let told = entry_form g.K.WireValue.form (g.W.WritesKept.form kept) in
    let keys = λ (es : List (g.row.K.Denot × g.row.W-Kept.Denot)). map (λ (e : g.row.K.Denot × g.row.W-Kept.Denot). g.K.Value.content e.0) es in
    let old = c.loop-member.entries.entries in
    let are_known = AreKnownEntries g.K.Value.is_value (g.W.ReadsKept.is_known kept) g.K.Value.same in
    let left = c.loop-member.invariant.known es known same in
    let next = first-left told left.0 (view c.in-Some.member) (map view c.next.new.self.rest.items) (left.2 ∙ ap (map view) c.in-Some.ensures.steps.0) in
    let known' = subst (λ (es : List (g.row.K-Content.Denot × g.row.W-Kept.Denot)). are_known (keys old) es) next.2 left.1 in
    let apart = apart-before g.K.Value.same g.met.K.Value.same_decides (keys old) next.0.0 (map (λ (e : g.row.K-Content.Denot × g.row.W-Kept.Denot). e.0) next.1) known'.0 in
    let one = All-head (IsKnownEntry g.K.Value.is_value (g.W.ReadsKept.is_known kept)) next.0 next.1 known'.1 in
    let memory = c.in_err-read_entry.ensures.known next.0 one apart next.3 in
    search rules

pub loop-member-preserved : goal.loop-member-preserved
loop-member-preserved g c =
    let kept = c.args.kept.now in
    let form = entry_form (λ (k : g.row.K.Denot). g.K.WireValue.form (g.K.Value.content k)) (g.W.WritesKept.form kept) in
    let told = entry_form g.K.WireValue.form (g.W.WritesKept.form kept) in
    let keys = λ (es : List (g.row.K.Denot × g.row.W-Kept.Denot)). map (λ (e : g.row.K.Denot × g.row.W-Kept.Denot). g.K.Value.content e.0) es in
    let old = c.loop-member.entries.entries in
    let are_known = AreKnownEntries g.K.Value.is_value (g.W.ReadsKept.is_known kept) g.K.Value.same in
    let new = c.read_entry.new.entries.entries in record {
      can_next = tt;
      is_finite = tt;
      same = grind (arith, common_steps);
      known = λ es known same.
          let left = c.loop-member.invariant.known es known same in
          let next = first-left told left.0 (view c.in-Some.member) (map view c.next.new.self.rest.items) (left.2 ∙ ap (map view) c.in-Some.ensures.steps.0) in
          let known' = subst (λ (es : List (g.row.K-Content.Denot × g.row.W-Kept.Denot)). are_known (keys old) es) next.2 left.1 in
          let keys_next : keys new ≡ keys old ++ next.0.0 ∷ [] =
          keys-told g.K.WireValue.form (g.W.WritesKept.form kept) g.K.Value.content g.met.K.WireValue.pinned new old next.0
          (c.in_ok-read_entry.ensures.form ∙ ap (λ e. map form old ++ e ∷ []) (sym next.3)) in
          let more = known-more g.K.Value.same g.met.K.Value.same_decides g.K.Value.is_value (g.W.ReadsKept.is_known kept) (keys old) next.0 next.1 known' in
          (next.1, subst (λ (ks : List g.row.K-Content.Denot). are_known ks next.1) (sym keys_next) more, next.4);
    }
