use Rattle.std.proofs.Common.{◌≡◌, ◌+◌, ℕ, List, Bor, ◌∷◌, [], ◌++◌, ◌∙◌, All, IsTrue, take, rules, sym, subst, true≢false}
use Rattle.std.specs.List.{AllZip}
use Rattle.std.proofs.lemmas.List.{take_all, take_more}
use Rattle.std.proofs.lemmas.List.Elements.{All-more, All-push, All-weaker}
use Rattle.collectors.specs.Laws.{IsContainerOf}
use Rattle.placed_containers.specs.Parts.{IsAt, IsOfJob, IsPart}
use Rattle.placed_containers.specs.declared.pieces.Part.{Part}
use Rattle.placed_containers.specs.Ways.{begin_of, end_of}
use Rattle.placed_containers.proofs.Telling.{zip-push}
use Rattle.placed_containers.proofs.job.read_parts.Goals as goal

pub returns-in_err-part-clause-known : goal.returns-in_err-part-clause-known
returns-in_err-part-clause-known g c = λ between n all.
    let memory = c.in_err-part.ensures.known between n (all c.loop-at.at _ c.loop-at-test.true) in
    search rules

pub returns-then-not-is_of_whole-clause-known : goal.returns-then-not-is_of_whole-clause-known
returns-then-not-is_of_whole-clause-known g c = λ between n all.
    let C = g.C.Collector in
    let it = c.args.job.now.collector.now in
    let is_part = IsPart (IsContainerOf g.C.Item.Value.is_value (C.content it) (C.empty it) (C.add it)) between n in
    let parts = c.loop-at.parts.items in
    let of_whole = All-weaker is_part (λ before. before.places.of ≡ n) (λ before part. part.2) parts (c.loop-at.invariant.parts between n all) in
    let part = c.in_ok-part.ensures.part between n (all c.loop-at.at _ c.loop-at-test.true) in
    let same : IsTrue c.is_of_whole.result = c.is_of_whole.ensures n (subst (All (λ before. before.places.of ≡ n)) (sym c.as_slice.ensures.value) of_whole) part.2 in
    absurd (true≢false (sym same ∙ c.if-not-is_of_whole.true))

pub loop-at-preserved : goal.loop-at-preserved
loop-at-preserved g c =
    let C = g.C.Collector in
    let it = c.args.job.now.collector.now in
    let made = IsContainerOf g.C.Item.Value.is_value (C.content it) (C.empty it) (C.add it) in
    let lines = c.args.lines.now in
    let at = c.loop-at.at in record {
      own = All-more (λ line. IsOfJob c.args.job.now.name.now line.now) lines at _ c.loop-at-test.true c.loop-at.invariant.own (begin_of c.in_ok-part.part, end_of c.in_ok-part.part, c.in_ok-part.part.places.of, c.in_ok-part.ensures.places);
      places =
          let tells : Part g.row.C-Acc.Denot → Bor (List ℕ) → Type 0 = λ part line. IsAt c.args.job.now.name.now (begin_of part) (end_of part) part.places.of line.now in
          let both = zip-push tells c.loop-at.parts.items (take at lines) c.in_ok-part.part _ c.loop-at.invariant.places c.in_ok-part.ensures.places in
          subst (λ ps. AllZip tells ps (take (at + 1) lines)) (sym c.in_ok-push.ensures.items)
          (subst (AllZip tells (c.loop-at.parts.items ++ c.in_ok-part.part ∷ [])) (sym (take_more lines at _ c.loop-at-test.true)) both);
      parts = λ between n all.
          let is_part = IsPart made between n in
          let part = c.in_ok-part.ensures.part between n (all at _ c.loop-at-test.true) in
          let pushed = All-push is_part c.loop-at.parts.items c.in_ok-part.part (c.loop-at.invariant.parts between n all) part in
          subst (All is_part) (sym c.in_ok-push.ensures.items) pushed;
    }

pub returns-clause-own : goal.returns-clause-own
returns-clause-own g c = subst (All (λ line. IsOfJob c.args.job.now.name.now line.now)) (take_all c.loop-at.at c.args.lines.now c.loop-at-test.false) c.loop-at.invariant.own

pub returns-clause-places : goal.returns-clause-places
returns-clause-places g c =
    subst (AllZip (λ part line. IsAt c.args.job.now.name.now (begin_of part) (end_of part) part.places.of line.now) c.loop-at.parts.items) (take_all c.loop-at.at c.args.lines.now c.loop-at-test.false) c.loop-at.invariant.places
