use Rattle.std.proofs.Common.{rules}
use Rattle.spliterator.proofs.either_source.EitherSpliterator.try_advance.Goals as goal

-- bounded: a wrong body would search to its limit
pub returns-in-Right-clause-ok : goal.returns-in-Right-clause-ok
returns-in-Right-clause-ok g c = search rules fits 60 depth 3

pub returns-in-Right-clause-side : goal.returns-in-Right-clause-side
returns-in-Right-clause-side g c = search rules fits 60 depth 3
