use Rattle.std.proofs.Common.{refl}
use Rattle.parallel_streams.proofs.stream.Stream.distinct.Goals as goal

-- by computing: a wrong body would search to its limit
pub returns : goal.returns
returns g c = refl
