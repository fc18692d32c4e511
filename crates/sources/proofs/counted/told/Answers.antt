use Rattle.std.proofs.Common.{rules}
use Rattle.sources.proofs.counted.told.Goals as goal

-- bounded: a wrong body would search to its limit
pub returns-then-count-le-MAX_ESTIMATE : goal.returns-then-count-le-MAX_ESTIMATE
returns-then-count-le-MAX_ESTIMATE c = search rules fits 60 depth 3

-- bounded: a wrong body would search to its limit
pub returns-else-count-le-MAX_ESTIMATE : goal.returns-else-count-le-MAX_ESTIMATE
returns-else-count-le-MAX_ESTIMATE c = search rules fits 60 depth 3
