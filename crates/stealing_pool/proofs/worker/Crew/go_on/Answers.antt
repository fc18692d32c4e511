use Rattle.std.proofs.Common.{◌≡◌, ◌∙◌, ◌++◌, ◌∷◌, [], List, ap, sym, subst}
use Rattle.std.proofs.lemmas.List.Elements.{All-push, All-same}
use Rattle.stealing_pool.specs.declared.worker.Ran.{Ran}
use Rattle.stealing_pool.specs.Shifts.{KeepsShift, IsRan, CutBy}
use Rattle.stealing_pool.proofs.Drawn.{shift_same, shift_skipped, shift_published}
use Rattle.stealing_pool.proofs.worker.Crew.go_on.Goals as goal

pub returns-in-Drained-clause-kept : goal.returns-in-Drained-clause-kept
returns-in-Drained-clause-kept g c = λ done. shift_same _ _ c.drawing.invariant.served _ c.in-Drained.ensures.draws.0

pub returns-in-Drained-clause-drained : goal.returns-in-Drained-clause-drained
returns-in-Drained-clause-drained g c = λ done. c.in-Drained.ensures.draws.1

pub drawing-preserved-in-Ok-Some : goal.drawing-preserved-in-Ok-Some
drawing-preserved-in-Ok-Some g c =
    let work = g.J.LeafJob.work c.args.self.now.job.now in
    let Q : Ran g.row.J-Kept.Denot → Type 0 = IsRan work in
    let drawn = c.in-Leaf.ensures in
    let served = rw c.in-Ok-Some.field-0-is at c.in-Ok-Some.ensures.serves in
    let stays = c.in-Ok-Some.ensures.seat in
    let more : c.push_reserved.new.self.items ≡ c.drawing.shift.ran.items ++ c.in-Ok-Some.one ∷ [] = c.push_reserved.ensures.items ∙ ap (λ xs. xs ++ c.in-Ok-Some.one ∷ []) c.make_room.ensures.same in record {
      of = stays.of;
      numbered = stays.numbered ∙ drawn.number ∙ c.drawing.invariant.numbered;
      ran = All-same Q _ _ more (All-push Q _ _ c.drawing.invariant.ran served.1);
      cuts =
          let Cut : Ran g.row.J-Kept.Denot → Type 0 = CutBy work g.B.Handout.made_cut c.serve.new.seat in
          let one : Cut c.in-Ok-Some.one = λ reached. subst (g.B.Handout.made_cut c.serve.new.seat) (sym served.0) (served.3 reached) in
          All-same Cut _ _ more (All-push Cut _ _ (λ k e within reached. stays.cuts _ (drawn.cuts _ (c.drawing.invariant.cuts k e within reached))) one);
      served = shift_published _ _ c.drawing.invariant.served _ c.in-Ok-Some.one _ _ _ drawn.draws.2 served.2 served.0 more;
      goes_on = c.drawing.invariant.goes_on;
    }

pub drawing-preserved : goal.drawing-preserved
drawing-preserved g c =
    let work = g.J.LeafJob.work c.args.self.now.job.now in
    let Q : Ran g.row.J-Kept.Denot → Type 0 = IsRan work in
    let drawn = c.in-Leaf.ensures in
    let served = rw c.in-Ok-None.field-0-is at c.in-Ok-None.ensures.serves in
    let stays = c.in-Ok-None.ensures.seat in
    let P : List _ → Type 0 = λ ran. KeepsShift (g.B.Handout.status c.serve.new.seat) ran in record {
      of = stays.of;
      numbered = stays.numbered ∙ drawn.number ∙ c.drawing.invariant.numbered;
      ran = All-same Q _ _ c.make_room.ensures.same c.drawing.invariant.ran;
      cuts =
          let Cut : Ran g.row.J-Kept.Denot → Type 0 = CutBy work g.B.Handout.made_cut c.serve.new.seat in
          All-same Cut _ _ c.make_room.ensures.same (λ k e within reached. stays.cuts _ (drawn.cuts _ (c.drawing.invariant.cuts k e within reached)));
      served = subst P (sym c.make_room.ensures.same) (shift_skipped _ _ c.drawing.invariant.served _ _ _ drawn.draws.2 served);
      goes_on = c.drawing.invariant.goes_on;
    }
