use Rattle.std.proofs.Common.{rules, ap, ◌∙◌}
use Rattle.std.{specs.Prelude.◌==◌, specs.List.starts_with, proofs.lemmas.Str.Pattern.starts_text}
use Rattle.pipeline_meaning.proofs.functions.TextCheckTest.holds.Goals as goal

pub returns-in-Starts : goal.returns-in-Starts
returns-in-Starts g c = rw (c.in-Starts.is) (starts_text _ _ _ c.starts_with.ensures.cases ∙ ap (λ text. starts_with ◌==◌ text c.in-Starts.front.now) c.text-text.ensures)

-- bounded: a wrong body would search to its limit
pub returns-in-Longer : goal.returns-in-Longer
returns-in-Longer g c = search rules fits 60 depth 3
