use Rattle.std.proofs.Common.{ℕ, List, ap, map, subst, ◌∙◌}
use Rattle.pipeline_meaning.specs.Stages.{text_stages}
use Rattle.pipeline_value.specs.{Typed.text_end_told, Value.Tells}
use Rattle.pipeline_value.proofs.texts.text_value.Goals as goal

pub returns : goal.returns
returns g c =
    let stages = c.args.body.stages.items in
    let items = map (λ t. t.now) c.optimised.new.plan.source.source.items.now in
    let Q : List (List ℕ) → Type 0 = λ l. Tells (text_end_told c.args.body.end l) c.end_value.result in
    subst Q (rw c.as_slice.ensures.value at (c.in_ok-linked.ensures.means items) ∙ c.optimised.ensures ∙ ap (text_stages stages) c.new.ensures)
    (rw (c.then.ensures.upstream, c.then.ensures.stage, c.of.ensures) at c.end_value.ensures)
