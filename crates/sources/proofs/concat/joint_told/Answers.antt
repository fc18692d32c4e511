use Rattle.std.proofs.Common.{rules}
use Rattle.sources.proofs.concat.joint_told.Goals as goal

-- bounded: a wrong body would search to its limit
pub returns-then-saturating_add-le-MAX_ESTIMATE : goal.returns-then-saturating_add-le-MAX_ESTIMATE
returns-then-saturating_add-le-MAX_ESTIMATE c = search rules fits 60 depth 3

pub returns-else-sized : goal.returns-else-sized
returns-else-sized c = search rules fits 60 depth 3
