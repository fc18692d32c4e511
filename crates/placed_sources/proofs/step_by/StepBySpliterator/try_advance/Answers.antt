use Rattle.std.proofs.Common.{◌∷◌, ap, ◌∙◌, sym}
use Rattle.placed_sources.specs.Steps.{every}
use Rattle.placed_sources.proofs.StepLaws.{at_steps-cons}
use Rattle.placed_sources.proofs.step_by.StepBySpliterator.try_advance.Goals as goal

pub returns-clause-ok : goal.returns-clause-ok
returns-clause-ok g c =
    let step = c.args.self.now.step in
    let x = g.S.Item.Value.content c.in-Some.item in
    let rest = g.S.Spliterator.items c.try_advance.new.self in
    let read = rw c.in-Some.is at c.in_ok-item.ensures.ok in
    ap (every step) read ∙ at_steps-cons (λ y ys. y) step x rest ∙ ap (λ ys. x ∷ every step ys) (sym c.after_first-self.ensures)
