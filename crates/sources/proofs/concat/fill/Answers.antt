use Rattle.std.proofs.Common.{rules}
use Rattle.sources.proofs.concat.fill.Goals as goal

-- bounded: a wrong body would search to its limit
pub returns-clause-most : goal.returns-clause-most
returns-clause-most g c = search rules fits 60 depth 3

-- bounded: a wrong body would search to its limit
pub returns-clause-ended : goal.returns-clause-ended
returns-clause-ended g c = search rules fits 60 depth 3
