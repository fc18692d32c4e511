use Rattle.std.proofs.Common.{rules}
use Rattle.parallel_streams.proofs.stream.Stream.flat_map.Goals as goal

-- bounded: a wrong body would search to its limit
pub returns-clause-stage : goal.returns-clause-stage
returns-clause-stage g c = search rules fits 60 depth 3
