use Rattle.std.proofs.Common.{◌≡◌, drop}
use Rattle.pipeline_meaning.specs.TextSteps.{text_images}
use Rattle.pipeline_meaning.proofs.text_steps.walk.Given as goal

abbrev pub invariant-loop-place : goal.invariant-loop-place
invariant-loop-place g l = text_images (drop l.place l.steps) (g.T.Value.content l.text) ≡ text_images l.steps (g.T.Value.content l.text)
