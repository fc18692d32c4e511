use Rattle.std.proofs.Common.{rules}
use Rattle.sources.proofs.rows.RowsSplitSpliterator.try_advance.Goals as goal

-- bounded: a wrong body would search to its limit
pub returns-clause-ok : goal.returns-clause-ok
returns-clause-ok g c = search rules fits 60 depth 3
