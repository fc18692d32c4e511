use Rattle.std.proofs.Common.{rules}
use Rattle.spliterator.proofs.either_source.EitherSpliterator.characteristics.Goals as goal

-- bounded: a wrong body would search to its limit
pub returns-in-Left : goal.returns-in-Left
returns-in-Left g c = search rules fits 60 depth 3
