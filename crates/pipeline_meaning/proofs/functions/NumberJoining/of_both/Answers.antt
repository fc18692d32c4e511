use Rattle.std.proofs.{Common.rules, lemmas.Int.wraps}
use Rattle.pipeline_meaning.proofs.functions.NumberJoining.of_both.Goals as goal

pub returns-in-Sum : goal.returns-in-Sum
returns-in-Sum c = search (rules, wraps)

-- bounded: a wrong body would search to its limit
pub returns-in-Min : goal.returns-in-Min
returns-in-Min c = search rules fits 60 depth 3
