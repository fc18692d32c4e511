use Rattle.pipeline_meaning.specs.NumberSteps.{number_step_images}
use Rattle.pipeline_meaning.specs.Walks.{no-steps}
use Rattle.pipeline_meaning.proofs.number_steps.NumberSteps.new.Goals as goal

pub returns-clause-means : goal.returns-clause-means
returns-clause-means c = no-steps number_step_images c.new.result.items c.new.ensures.items
