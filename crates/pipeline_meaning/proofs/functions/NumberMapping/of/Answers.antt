use Rattle.std.proofs.Common.{rules}
use Rattle.pipeline_meaning.proofs.functions.NumberMapping.of.Goals as goal

-- bounded: a wrong body would search to its limit
pub returns-in-Change : goal.returns-in-Change
returns-in-Change c = search rules fits 60 depth 3
