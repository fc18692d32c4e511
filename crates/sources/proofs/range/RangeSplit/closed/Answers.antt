use Rattle.std.proofs.Common.{rules}
use Rattle.sources.proofs.range.RangeSplit.closed.Goals as goal

-- bounded: a wrong body would search to its limit
pub returns-clause-ok : goal.returns-clause-ok
returns-clause-ok c = search rules fits 200 depth 4

pub invariant_of-result-2 : goal.invariant_of-result-2
invariant_of-result-2 c = search rules fits 60 depth 3
