use Rattle.std.proofs.Common.{rules}
use Rattle.leaf_reading.proofs.stretch.feed_lent.Goals as goal

-- bounded: a wrong body would search to its limit
pub returns-then-not-branch-clause-same : goal.returns-then-not-branch-clause-same
returns-then-not-branch-clause-same g c = search rules fits 60 depth 3
