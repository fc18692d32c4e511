use Rattle.std.proofs.Common.{rules}
use Rattle.leaf_reading.proofs.keeper.is_enough.Goals as goal

-- bounded: a wrong body would search to its limit
pub returns-in-Reach : goal.returns-in-Reach
returns-in-Reach c = search rules fits 60 depth 3
