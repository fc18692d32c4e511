use Rattle.std.proofs.Common.{rules}
use Rattle.leaf_reading.proofs.stretch.feed_block.Goals as goal

-- bounded: a wrong body would search to its limit
pub returns-then-is_empty-clause-more : goal.returns-then-is_empty-clause-more
returns-then-is_empty-clause-more g c = search rules fits 60 depth 3
