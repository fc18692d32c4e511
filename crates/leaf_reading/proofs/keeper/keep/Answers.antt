use Rattle.std.proofs.Common.{rules}
use Rattle.leaf_reading.proofs.keeper.keep.Goals as goal

-- bounded: a wrong body would search to its limit
pub returns-clause-content : goal.returns-clause-content
returns-clause-content g c = search rules fits 60 depth 3
