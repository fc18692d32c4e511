use Rattle.std.proofs.Common.{rules}
use Rattle.sources.proofs.iterated.IteratedSpliterator.try_advance.Goals as goal

-- bounded: a wrong body would search to its limit
pub returns-clause-ok : goal.returns-clause-ok
returns-clause-ok g c = search rules fits 200 depth 4

-- bounded: a wrong body would search to its limit
pub returns-in_err-self-clause-refused_only : goal.returns-in_err-self-clause-refused_only
returns-in_err-self-clause-refused_only g c = search rules fits 60 depth 3
