use Rattle.std.proofs.Common.{◌≡◌, ◌≤◌, ◌∷◌, [], ◌++◌, All, IsTrue, rules, sym, ap, ◌∙◌, subst, append_assoc, append-nil}
use Rattle.std.specs.List.{AllZip}
use Rattle.std.proofs.lemmas.List.{nil_from_length}
use Rattle.std.specs.Prelude.{string_bytes}
use Rattle.std.proofs.lemmas.List.Elements.{All-nil, All-head, All-tail, All-push}
use Rattle.collectors.specs.Laws.{IsContainerOf}
use Rattle.wire_form.specs.Forms.{IsFormOf}
use Rattle.placed_containers.specs.OneLine.{is_one_line}
use Rattle.placed_containers.specs.Parts.{IsAt, IsPart, IsPartLine}
use Rattle.placed_containers.specs.declared.pieces.Part.{Part}
use Rattle.placed_containers.specs.Ways.{begin_of, end_of}
use Rattle.placed_containers.proofs.Telling.{zip-push}
use Rattle.placed_containers.proofs.job.write_parts.Goals as goal

pub loop-part-init : goal.loop-part-init
loop-part-init g c =
    let same : c.args.parts.items ≡ c.into_iter-part-iterator.result.rest.items = search rules in
    let none : c.in_ok-lines.lines.items ≡ [] = search rules in
    let C = g.C.Collector in
    let it = c.args.job.now.collector.now in
    let name = c.args.job.now.name.now in
    let tells = IsFormOf g.C.Item.Value.is_value (C.content it) (C.empty it) (C.add it) (g.C.WireForm.form it) in record {
      can_next = tt;
      is_finite = tt;
      one_line = subst (All (λ line. IsTrue (is_one_line (string_bytes line)))) (sym none) (All-nil (λ line. IsTrue (is_one_line (string_bytes line))));
      places = ([], same, subst (AllZip (λ (part : Part g.row.C-Acc.Denot) line. IsAt name (begin_of part) (end_of part) part.places.of (string_bytes line)) []) (sym none) tt);
      lines = λ between n all. (
        subst (All (λ line. IsPartLine tells name between n (string_bytes line))) (sym none) (All-nil (λ line. IsPartLine tells name between n (string_bytes line))),
        subst (All (IsPart (IsContainerOf g.C.Item.Value.is_value (C.content it) (C.empty it) (C.add it)) between n)) same all,
      );
    }

pub returns-clause-places : goal.returns-clause-places
returns-clause-places g c =
    let name = c.args.job.now.name.now in
    let front = c.loop-part.invariant.places in
    let over : c.loop-part.part-iterator.rest.items ≡ [] = nil_from_length _ (sym c.loop-part.part-iterator.rest.ok.0 ∙ c.in-None.ensures.steps.0) in
    let all : c.args.parts.items ≡ front.0 = front.1 ∙ ap (λ l. front.0 ++ l) over ∙ append-nil front.0 in
    subst (λ ps. AllZip (λ part line. IsAt name (begin_of part) (end_of part) part.places.of (string_bytes line)) ps c.loop-part.lines.items) (sym all) front.2

pub loop-part-preserved : goal.loop-part-preserved
loop-part-preserved g c =
    let C = g.C.Collector in
    let it = c.args.job.now.collector.now in
    let name = c.args.job.now.name.now in
    let made = IsContainerOf g.C.Item.Value.is_value (C.content it) (C.empty it) (C.add it) in
    let tells = IsFormOf g.C.Item.Value.is_value (C.content it) (C.empty it) (C.add it) (g.C.WireForm.form it) in
    let lines = c.loop-part.lines.items in
    let line = c.in_ok-part_line.field-0 in record {
      can_next = tt;
      is_finite = tt;
      one_line =
          let is_line = λ (l : _). IsTrue (is_one_line (string_bytes l)) in
          subst (All is_line) (sym c.in_ok-push.ensures.items) (All-push is_line lines line c.loop-part.invariant.one_line c.in_ok-part_line.ensures.one_line);
      places =
          let front = c.loop-part.invariant.places in
          let tells = λ (part : Part g.row.C-Acc.Denot) (l : _). IsAt name (begin_of part) (end_of part) part.places.of (string_bytes l) in
          let x = c.in-Some.part in
          let rest = c.next.new.self.rest.items in (
            front.0 ++ x ∷ [],
            front.1 ∙ ap (λ l. front.0 ++ l) c.in-Some.ensures.steps.0 ∙ sym (append_assoc front.0 (x ∷ []) rest),
            subst (AllZip tells (front.0 ++ x ∷ [])) (sym c.in_ok-push.ensures.items) (zip-push tells front.0 lines x line front.2 c.in_ok-part_line.ensures.places),
          );
      lines = λ between n all.
          let is_part = IsPart made between n in
          let is_line = λ (l : _). IsPartLine tells name between n (string_bytes l) in
          let before = c.loop-part.invariant.lines between n all in
          let left = subst (All is_part) c.in-Some.ensures.steps.0 before.1 in
          let rest = c.next.new.self.rest.items in
          let part = All-head is_part c.in-Some.part rest left in
          let one = subst (λ m. IsPartLine tells name between m (string_bytes line)) part.2 (c.in_ok-part_line.ensures.told between part.3) in
          (subst (All is_line) (sym c.in_ok-push.ensures.items) (All-push is_line lines line before.0 one), All-tail is_part c.in-Some.part rest left);
    }

pub returns-in_err-part_line-clause-known : goal.returns-in_err-part_line-clause-known
returns-in_err-part_line-clause-known g c = λ between n all.
    let C = g.C.Collector in
    let it = c.args.job.now.collector.now in
    let is_part = IsPart (IsContainerOf g.C.Item.Value.is_value (C.content it) (C.empty it) (C.add it)) between n in
    let left = subst (All is_part) c.in-Some.ensures.steps.0 (c.loop-part.invariant.lines between n all).1 in
    let part = All-head is_part c.in-Some.part c.next.new.self.rest.items left in
    let memory = c.in_err-part_line.ensures.known part.0 (subst (λ m. c.in-Some.part.places.to ≤ m) (sym part.2) part.1) in
    search rules
