use Rattle.std.proofs.Common.{rules}
use Rattle.stealing_pool.proofs.worker.may_cut.Goals as goal

-- bounded: a wrong body would search to its limit
pub returns-else-count-gt0-clause-yes : goal.returns-else-count-gt0-clause-yes
returns-else-count-gt0-clause-yes c = search rules fits 60 depth 3
