use Rattle.std.proofs.Common.{rules}
use Rattle.parallel_streams.proofs.stream.Stream.limit.Goals as goal

-- bounded: a wrong body would search to its limit
pub returns-clause-barrier : goal.returns-clause-barrier
returns-clause-barrier g c = search rules fits 60 depth 3
