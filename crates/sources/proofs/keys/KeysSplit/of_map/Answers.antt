use Rattle.std.proofs.Common.{rules}
use Rattle.sources.proofs.keys.KeysSplit.of_map.Goals as goal

-- bounded: a wrong body would search to its limit
pub invariant_of-result : goal.invariant_of-result
invariant_of-result g c = search rules fits 60 depth 3

-- bounded: a wrong body would search to its limit
pub returns : goal.returns
returns g c = search rules fits 60 depth 3
