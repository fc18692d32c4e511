use Rattle.std.proofs.Common.{rules}
use Rattle.pipeline_meaning.proofs.number_bases.NumberBaseCollectorCollector.accumulate.Goals as goal

-- bounded: a wrong body would search to its limit
pub returns : goal.returns
returns c = search rules fits 60 depth 3
