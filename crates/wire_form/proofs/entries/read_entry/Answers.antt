use Rattle.std.proofs.Common.{◌≡◌, ◌∙◌, ◌++◌, ◌∷◌, [], None, true, false, rules, map, sym, ap, ap₂, true≢false}
use Rattle.std.proofs.lemmas.List.{map-append}
use Rattle.serde_json.specs.View.{view}
use Rattle.indexmap.specs.IndexMap.{get}
use Rattle.indexmap.proofs.CallerLemmas.{insert_entry-new}
use Rattle.std.specs.List.{list_any}
use Rattle.wire_form.specs.Forms.{entry_form, pair_form}
use Rattle.wire_form.specs.FormLaws.{pair-first, pair-second}
use Rattle.wire_form.proofs.EntriesRead.{there}
use Rattle.wire_form.proofs.Members.{not-some}
use Rattle.wire_form.proofs.entries.read_entry.Goals as goal

pub returns-clause-form : goal.returns-clause-form
returns-clause-form g c =
    let eq = g.K.PartialEq.eq in
    let form = entry_form (λ (k : g.row.K.Denot). g.K.WireValue.form (g.K.Value.content k)) (g.W.WritesKept.form c.args.kept.now) in
    let m = c.args.entries.now in
    let key = c.in_ok-key-2.key in
    let value = c.in_ok-value.value in
    let new : get eq m key ≡ None = not-some (get eq m key) (sym c.contains_key.ensures ∙ c.if-contains_key.false) in
    let member : form (key, value) ≡ view c.args.member = ap₂ pair_form c.in_ok-key-2.ensures.form c.in_ok-value.ensures.form ∙ c.in_ok-key.ensures.form in
    ap (map form) (c.in_ok-insert.ensures.entries ∙ insert_entry-new eq m key value new)
    ∙ map-append form m.entries ((key, value) ∷ [])
    ∙ ap (λ d. map form m.entries ++ d ∷ []) member

pub returns-in_err-key-2-clause-known : goal.returns-in_err-key-2-clause-known
returns-in_err-key-2-clause-known g c = λ e known new same.
    let memory = c.in_err-key-2.ensures.known e.0 known.0 (pair-first (same ∙ sym c.in_ok-key.ensures.form)) in
    search rules

pub returns-in_err-value-clause-known : goal.returns-in_err-value-clause-known
returns-in_err-value-clause-known g c = λ e known new same.
    let memory = c.in_err-value.ensures.known e.1 known.1 (pair-second (same ∙ sym c.in_ok-key.ensures.form)) in
    search rules

pub returns-then-contains_key-clause-known : goal.returns-then-contains_key-clause-known
returns-then-contains_key-clause-known g c = λ e known new same.
    let key = c.in_ok-key-2.key in
    let is : g.K.Value.content key ≡ e.0 = g.met.K.WireValue.pinned (g.K.Value.content key) e.0 (c.in_ok-key-2.ensures.form ∙ sym (pair-first (same ∙ sym c.in_ok-key.ensures.form))) in
    let keys = map (λ (g' : g.row.K.Denot × g.row.W-Kept.Denot). g.K.Value.content g'.0) c.args.entries.now.entries in
    let found = there g.K.PartialEq.eq g.K.Value.same g.K.Value.content g.met.K.EqualValue.eq_is_same key c.args.entries.now.entries in
    let no : true ≡ false = sym (sym c.contains_key.ensures ∙ c.if-contains_key.true) ∙ found ∙ ap (λ k. list_any (g.K.Value.same k) keys) is ∙ new in
    absurd (true≢false no)
