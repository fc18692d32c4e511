use Rattle.std.proofs.Common.{rules}
use Rattle.terminals.proofs.first_pairs.FirstPairs.shrink.Goals as goal

-- bounded: a wrong body would search to its limit
pub returns : goal.returns
returns g c = search rules fits 60 depth 3
