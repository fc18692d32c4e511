use Rattle.std.proofs.Common.{arith, ◌∙◌, sym}
use Rattle.std.proofs.lemmas.List.{nil_from_length}
use Rattle.pipeline_meaning.specs.NumberSteps.{number_step_images}
use Rattle.pipeline_meaning.specs.Walks.{no-steps}
use Rattle.pipeline_meaning.proofs.number_steps.NumberSteps.is_nothing.Goals as goal

pub returns-in-empty : goal.returns-in-empty
returns-in-empty c _ = let few = c.in-empty.len_below in no-steps number_step_images c.args.self.now.steps.items (sym c.as_slice.ensures.value ∙ nil_from_length c.as_slice.result.now (omega (arith, few)))
