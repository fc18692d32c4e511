use Rattle.pipeline_meaning.specs.NumberSteps.{is_map_step, number_step_images}
use Rattle.pipeline_meaning.specs.{Stages.is_map_stage, Stages.number_stage, Walks.step-follows}
use Rattle.pipeline_meaning.proofs.number_steps.NumberSteps.put.Goals as goal

pub returns-in_ok-push-in-Some : goal.returns-in_ok-push-in-Some
returns-in_ok-push-in-Some c =
    step-follows number_step_images number_stage is_map_step is_map_stage c.args.self.now.steps.items c.push.new.self.items c.in-Some.step c.args.stage.now
    c.in_ok-push-in-Some.ensures.items c.in-Some.ensures
