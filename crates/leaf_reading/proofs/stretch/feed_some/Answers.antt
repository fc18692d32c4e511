use Rattle.std.proofs.Common.{rules}
use Rattle.leaf_reading.proofs.stretch.feed_some.Goals as goal

-- bounded: a wrong body would search to its limit
pub loop-read-preserved : goal.loop-read-preserved
loop-read-preserved g c = search rules fits 60 depth 3
