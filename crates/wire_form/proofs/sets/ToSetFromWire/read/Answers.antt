use Rattle.std.proofs.Common.{◌≡◌, ◌≤◌, ◌<◌, ◌∙◌, All, [], rules, length, map, fold, sym, ap, subst, arith}
use Rattle.std.proofs.lemmas.List.{length-map}
use Rattle.stages.specs.Distinct.{distinct, AllApart}
use Rattle.stages.specs.DistinctLaws.{distinct-apart}
use Rattle.derived_collectors.specs.Sets.{as_keys, set_add, set_of}
use Rattle.wire_form.specs.Forms.{list_form}
use Rattle.wire_form.specs.FormLaws.{list_form-pinned, map-itself}
use Rattle.wire_form.proofs.EntriesRead.{distinct-known}
use Rattle.wire_form.proofs.SetsRead.{distinct-all, distinct-of_apart}
use Rattle.wire_form.proofs.sets.ToSetFromWire.read.Goals as goal

pub returns-in_err-items-clause-known : goal.returns-in_err-items-clause-known
returns-in_err-items-clause-known g c = λ l h.
    let same = g.T.Value.same in
    let decides = g.met.T.Value.same_decides in
    let keys = map g.T.Value.content h.0.keys in
    let is = set_of same decides l keys h.1.1 in
    let values = subst (All g.T.Value.is_value) (sym is) (distinct-known same decides g.T.Value.is_value [] l h.1.0) in
    let memory = c.in_err-items.ensures.known keys values h.2 in
    search rules

pub returns-then-len-number-clause-known : goal.returns-then-len-number-clause-known
returns-then-len-number-clause-known g c = λ l h.
    let same = g.T.Value.same in
    let decides = g.met.T.Value.same_decides in
    let of = g.T.Value.content in
    let items = c.in_ok-items.items in
    let read = map of items.items in
    let keys = map of h.0.keys in
    let new = c.accumulate_all_owned.new.acc.keys in
    let was : read ≡ keys = map-itself (list_form-pinned g.T.WireValue.form (λ x. x) g.met.T.WireValue.pinned read keys (c.in_ok-items.ensures.form ∙ sym h.2)) in
    let apart = subst (AllApart same) (sym (was ∙ set_of same decides l keys h.1.1)) (distinct-apart same decides l) in
    let made : as_keys (map of new) ≡ fold (set_add same) [] read = c.in_ok-accumulate_all_owned.ensures ∙ ap (λ a. fold (set_add same) a read) c.in_ok-set.ensures in
    let all : map of new ≡ read = set_of same decides read (map of new) made ∙ distinct-of_apart same decides [] read apart in
    let alike : length new ≡ length items.items = sym (length-map new of) ∙ ap length all ∙ length-map items.items of in
    let short : length new < length items.items = omega (arith, c.if-len-number.true, c.len.ensures.len, c.len-number.ensures, items.ok.0) in
    absurd (omega (arith, alike, short))

pub returns-clause-form : goal.returns-clause-form
returns-clause-form g c =
    let same = g.T.Value.same in
    let decides = g.met.T.Value.same_decides in
    let of = g.T.Value.content in
    let items = c.in_ok-items.items in
    let read = map of items.items in
    let new = c.accumulate_all_owned.new.acc.keys in
    let made : as_keys (map of new) ≡ fold (set_add same) [] read = c.in_ok-accumulate_all_owned.ensures ∙ ap (λ a. fold (set_add same) a read) c.in_ok-set.ensures in
    let is = set_of same decides read (map of new) made in
    let enough : length items.items ≤ length new = omega (arith, c.if-len-number.false, c.len.ensures.len, c.len-number.ensures, items.ok.0) in
    let all : length read ≤ length (distinct same read) = omega (arith, length-map items.items of, ap length is, length-map new of, enough) in
    ap (list_form g.T.WireValue.form) (is ∙ distinct-all same [] read all) ∙ c.in_ok-items.ensures.form
