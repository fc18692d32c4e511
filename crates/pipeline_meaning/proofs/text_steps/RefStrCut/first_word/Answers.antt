use Rattle.std.proofs.Common.{◌∙◌, ◌∷◌, ap}
use Rattle.pipeline_meaning.proofs.TextFronts.{same-left, shorter-left}
use Rattle.pipeline_meaning.proofs.text_steps.RefStrCut.first_word.Goals as goal

pub returns-clause-words : goal.returns-clause-words
returns-clause-words c = c.first_word.ensures.word ∙ ap (λ words. c.first_word.result.0.now ∷ words) (same-left c.first_word.result.1)

pub returns-clause-shorter : goal.returns-clause-shorter
returns-clause-shorter c = shorter-left c.first_word.result.1 _ c.first_word.ensures.shorter
