use Rattle.std.proofs.Common.{rules, ◌≡◌, List, [], ◌∷◌, All, refl, sym, ◌∙◌, subst, zero-le}
use Rattle.std.proofs.lemmas.List.{nil_from_length}
use Rattle.std.proofs.lemmas.List.Elements.{All-head, All-tail}
use Rattle.collectors.specs.Laws.{IsContainerOf}
use Rattle.placed_containers.specs.Parts.{IsPart}
use Rattle.placed_containers.specs.Ways.{IsStop, LeadsOn, end_of}
use Rattle.placed_containers.proofs.Joined.{between-none}
use Rattle.placed_containers.proofs.Leading.{stop-taken, stop-last}
use Rattle.placed_containers.proofs.ways.follow_parts.Goals as goal

pub loop-part-init : goal.loop-part-init
loop-part-init g c =
    let C = g.C.Collector in
    let it = c.args.collector.now in
    let of = c.args.of in
    let made = λ (l : List g.row.C-Item-Content.Denot) (acc : g.row.C-Acc.Denot). IsContainerOf g.C.Item.Value.is_value (C.content it) (C.empty it) (C.add it) l acc in
    let same : c.args.parts.items ≡ c.into_iter-part-iterator.result.rest.items = search rules in record {
      can_next = tt;
      is_finite = tt;
      begin = refl;
      part = λ between joins all.
          let none = subst (λ l. made l c.in_ok-new_container.field-0) (sym (between-none between joins 0)) c.in_ok-new_container.ensures in
          ((zero-le, zero-le, refl, none), subst (All (IsPart (IsContainerOf g.C.Item.Value.is_value (C.content it) (C.empty it) (C.add it)) between of)) same all);
      end = λ leads stop. (subst (LeadsOn of) same leads, subst (λ l. IsStop of l 0) same stop);
    }

pub loop-part-preserved : goal.loop-part-preserved
loop-part-preserved g c =
    let C = g.C.Collector in
    let it = c.args.collector.now in
    let of = c.args.of in
    let before = c.loop-part.invariant in
    let x = c.in-Some.part in
    let rest = c.next.new.self.rest.items in
    let is : c.loop-part.part-iterator.rest.items ≡ x ∷ rest = c.in-Some.ensures.steps.0 in record {
      can_next = tt;
      is_finite = tt;
      begin = c.in_ok-extend_piece.ensures.begin ∙ before.begin;
      part = λ between joins all.
          let is_part = IsPart (IsContainerOf g.C.Item.Value.is_value (C.content it) (C.empty it) (C.add it)) between of in
          let so = before.part between joins all in
          let left = subst (All is_part) is so.1 in
          (c.in_ok-extend_piece.ensures.part between of joins so.0 (All-head is_part x rest left), All-tail is_part x rest left);
      end = λ leads stop.
          let so = before.end leads stop in
          stop-taken of x rest c.loop-part.part-iterator.rest.items (end_of c.loop-part.piece) (end_of c.extend_piece.new.piece) is c.in_ok-extend_piece.ensures.end so.0 so.1;
    }

pub returns-clause-begin : goal.returns-clause-begin
returns-clause-begin g c = c.loop-part.invariant.begin

pub returns-clause-part : goal.returns-clause-part
returns-clause-part g c = λ between joins all. (c.loop-part.invariant.part between joins all).0

pub returns-clause-end : goal.returns-clause-end
returns-clause-end g c = λ leads stop.
    let over : c.loop-part.part-iterator.rest.items ≡ [] = nil_from_length _ (sym c.loop-part.part-iterator.rest.ok.0 ∙ c.in-None.ensures.steps.0) in
    stop-last c.args.of c.loop-part.part-iterator.rest.items (end_of c.loop-part.piece) over (c.loop-part.invariant.end leads stop).1
