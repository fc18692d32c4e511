use Rattle.std.proofs.Common.{rules}
use Rattle.sources.proofs.concat.ConcatSpliterator.next_block.Goals as goal

-- bounded: a wrong body would search to its limit
pub returns-in_ok-fill-in-Both-clause-ended : goal.returns-in_ok-fill-in-Both-clause-ended
returns-in_ok-fill-in-Both-clause-ended g c = search rules fits 60 depth 3
