use Rattle.std.proofs.Common.{refl}
use Rattle.parallel_streams.proofs.stream.Stream.then.Goals as goal

-- by computing: a wrong body would search to its limit
pub returns-clause-stage : goal.returns-clause-stage
returns-clause-stage g c = refl
