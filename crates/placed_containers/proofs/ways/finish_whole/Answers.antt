use Rattle.std.specs.Prelude.{Some, slice_get}
use Rattle.std.proofs.Common.{◌≡◌, ◌<◌, ◌≤◌, List, All, Contains, sym, ◌∙◌, subst, arith}
use Rattle.std.proofs.lemmas.List.Elements.{All-contains, All-weaker}
use Rattle.std.proofs.lemmas.List.Sorted.{All-permutation}
use Rattle.collectors.specs.Laws.{IsContainerOf}
use Rattle.placed_containers.specs.Parts.{IsPart}
use Rattle.placed_containers.specs.Ways.{HasPart, IsWay, begin_of, end_of}
use Rattle.placed_containers.proofs.Anys.{all-at}
use Rattle.placed_containers.proofs.Joining.{has-permuted}
use Rattle.placed_containers.proofs.Longest.{way-to}
use Rattle.placed_containers.proofs.ways.finish_whole.Goals as goal

pub returns-then-whole-of-clause-complete : goal.returns-then-whole-of-clause-complete
returns-then-whole-of-clause-complete g c = λ between n all some stops way.
    let C = g.C.Collector in
    let it = c.args.collector.now in
    let is_part = IsPart (IsContainerOf g.C.Item.Value.is_value (C.content it) (C.empty it) (C.add it)) between n in
    let parts = c.args.parts.items in
    let sorted = c.sort_parts.new.parts.items in
    let of = c.in-Some.first.now.places.of in
    let whole : of ≡ n = (all-at is_part parts 0 c.in-Some.first.now all (subst (λ l. slice_get l 0 ≡ Some c.in-Some.first.now) c.deref.ensures.value (sym c.in-Some.ensures.value))).2 in
    let within = All-weaker is_part (λ part. begin_of part ≤ end_of part) (λ part is. is.0) sorted (All-permutation is_part parts sorted c.sort_parts.ensures.permutation all) in
    let led = way-to {told = HasPart parts} {other = HasPart sorted} (has-permuted parts sorted c.sort_parts.ensures.permutation) 0 stops of (subst (λ m. IsWay (HasPart parts) 0 stops m) (sym whole) way) in
    let stop = c.in_ok-leading.ensures.reaches c.sort_parts.ensures.falling within 0 stops led in
    let ends : c.in_ok-whole.whole.places.to ≡ of = c.in_ok-whole.ensures.end c.in_ok-leading.ensures.leads stop in
    let below : c.in_ok-whole.whole.places.to < of = grind (arith) in
    absurd (omega (arith, ends, below))

pub returns-clause-result : goal.returns-clause-result
returns-clause-result g c = λ between n joins all.
    let C = g.C.Collector in
    let it = c.args.collector.now in
    let made = λ (l : List g.row.C-Item-Content.Denot) (acc : g.row.C-Acc.Denot). IsContainerOf g.C.Item.Value.is_value (C.content it) (C.empty it) (C.add it) l acc in
    let parts = c.args.parts.items in
    let sorted = c.sort_parts.new.parts.items in
    let of = c.in-Some.first.now.places.of in
    let is_part = IsPart (IsContainerOf g.C.Item.Value.is_value (C.content it) (C.empty it) (C.add it)) between of in
    let whole : of ≡ n = (all-at (IsPart (IsContainerOf g.C.Item.Value.is_value (C.content it) (C.empty it) (C.add it)) between n) parts 0 c.in-Some.first.now all (subst (λ l. slice_get l 0 ≡ Some c.in-Some.first.now) c.deref.ensures.value (sym c.in-Some.ensures.value))).2 in
    let here = subst (λ m. All (IsPart (IsContainerOf g.C.Item.Value.is_value (C.content it) (C.empty it) (C.add it)) between m) parts) (sym whole) all in
    let there = All-permutation is_part parts sorted c.sort_parts.ensures.permutation here in
    let led = All-weaker (Contains sorted) is_part (λ x h. All-contains is_part sorted x there h) c.in_ok-leading.leading.items c.in_ok-leading.ensures.members in
    let piece = c.in_ok-whole.ensures.part between joins led in
    let low : of ≤ c.in_ok-whole.whole.places.to = grind (arith) in
    let ends : c.in_ok-whole.whole.places.to ≡ of = omega (arith, low, piece.1) in
    let from_0 = subst (λ p. made (between p c.in_ok-whole.whole.places.to) c.in_ok-whole.whole.container) c.in_ok-whole.ensures.begin piece.3 in
    let to_n = subst (λ p. made (between 0 p) c.in_ok-whole.whole.container) (ends ∙ whole) from_0 in
    c.in_ok-finish_container.ensures (between 0 n) to_n
