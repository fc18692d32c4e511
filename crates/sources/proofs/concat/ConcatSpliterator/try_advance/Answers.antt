use Rattle.std.proofs.Common.{rules}
use Rattle.sources.proofs.concat.ConcatSpliterator.try_advance.Goals as goal

-- bounded: a wrong body would search to its limit
pub returns-in-None-clause-ok : goal.returns-in-None-clause-ok
returns-in-None-clause-ok g c = search rules fits 60 depth 3

-- bounded: a wrong body would search to its limit
pub returns-in-None-clause-sides : goal.returns-in-None-clause-sides
returns-in-None-clause-sides g c = search rules fits 60 depth 3

-- bounded: a wrong body would search to its limit
pub returns-in-None-clause-refused_sides : goal.returns-in-None-clause-refused_sides
returns-in-None-clause-refused_sides g c = search rules fits 60 depth 3
