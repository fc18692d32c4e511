use Rattle.std.proofs.Common.{rules}
use Rattle.spliterator.proofs.either_source.EitherSpliterator.estimate_size.Goals as goal

-- bounded: a wrong body would search to its limit
pub returns-in-Right : goal.returns-in-Right
returns-in-Right g c = search rules fits 60 depth 3
