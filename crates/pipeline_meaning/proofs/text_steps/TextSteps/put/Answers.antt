use Rattle.std.proofs.Common.{rules}
use Rattle.pipeline_meaning.specs.TextSteps.{is_map_step, text_step_images}
use Rattle.pipeline_meaning.specs.{Stages.is_map_stage, Stages.text_stage, Walks.step-follows}
use Rattle.pipeline_meaning.proofs.text_steps.TextSteps.put.Goals as goal

pub returns-in_ok-push-in-Some : goal.returns-in_ok-push-in-Some
returns-in_ok-push-in-Some c =
    step-follows text_step_images text_stage is_map_step is_map_stage c.args.self.now.steps.items c.push.new.self.items c.in-Some.step c.args.stage.now
    c.in_ok-push-in-Some.ensures.items c.in-Some.ensures

-- bounded: a wrong body would search to its limit
pub returns-in-None : goal.returns-in-None
returns-in-None c = search rules fits 60 depth 3
