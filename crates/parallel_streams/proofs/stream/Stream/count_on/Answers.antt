use Rattle.std.proofs.Common.{rules}
use Rattle.parallel_streams.proofs.stream.Stream.count_on.Goals as goal

-- bounded: a wrong body would search to its limit
pub returns-in-Some-clause-known : goal.returns-in-Some-clause-known
returns-in-Some-clause-known g c = search rules fits 60 depth 3
