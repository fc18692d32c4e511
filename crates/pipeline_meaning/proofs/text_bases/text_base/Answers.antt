use Rattle.std.proofs.Common.{refl, ap, ◌∙◌, append-nil, map-id}
use Rattle.collectors.specs.Reductions.{delimited}
use Rattle.pipeline_meaning.proofs.text_bases.text_base.Goals as goal
use Rattle.pipeline_meaning.proofs.text_bases.text_base.Goals.{in-Count, in-First, in-ToList, in-Own}

pub returns-clause-summary : goal.returns-clause-summary
returns-clause-summary c = λ l.
    elim c.match-base.branch [
      | in-Count w ↦ rw (w.chosen-is, w.in-Count.is) refl
      | in-First w ↦ rw (w.chosen-is, w.in-First.is) refl
      | in-ToList w ↦ rw (w.chosen-is, w.in-ToList.is, w.list.ensures.between, w.list.ensures.front, w.list.ensures.back) refl
      | in-Own w ↦ rw (w.chosen-is, w.in-Own.is, w.new-in-Own.ensures.between, w.new-in-Own.ensures.front, w.new-in-Own.ensures.back) (append-nil _ ∙ ap (delimited w.in-Own.delimiter.now) (map-id l))
    ]
