use Rattle.std.proofs.Common.{rules}
use Rattle.stealing_pool.proofs.worker.Crew.run_and_publish.Goals as goal

-- bounded: a wrong body would search to its limit
pub returns-after-may_cut-clause-serves : goal.returns-after-may_cut-clause-serves
returns-after-may_cut-clause-serves g c = search rules fits 60 depth 3
