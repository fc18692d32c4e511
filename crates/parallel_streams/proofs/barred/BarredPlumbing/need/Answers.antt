use Rattle.std.proofs.Common.{rules}
use Rattle.parallel_streams.proofs.barred.BarredPlumbing.need.Goals as goal

-- bounded: a wrong body would search to its limit
pub returns-else-is_through-clause-is : goal.returns-else-is_through-clause-is
returns-else-is_through-clause-is g c = search rules fits 60 depth 3

-- bounded: a wrong body would search to its limit
pub returns-else-is_through-clause-fits : goal.returns-else-is_through-clause-fits
returns-else-is_through-clause-fits g c = search rules fits 60 depth 3
