use Rattle.std.proofs.Common.{rules}
use Rattle.pipeline_meaning.proofs.adapted.AdaptedCollector.accumulate_all.Goals as goal

-- bounded: a wrong body would search to its limit
pub returns-in-Nothing : goal.returns-in-Nothing
returns-in-Nothing g c = search rules fits 60 depth 3
