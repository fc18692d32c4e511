use Rattle.pipeline_meaning.specs.TextSteps.{text_step_images}
use Rattle.pipeline_meaning.specs.Walks.{no-steps}
use Rattle.pipeline_meaning.proofs.text_steps.TextSteps.new.Goals as goal

pub returns-clause-means : goal.returns-clause-means
returns-clause-means c = no-steps text_step_images c.new.result.items c.new.ensures.items
