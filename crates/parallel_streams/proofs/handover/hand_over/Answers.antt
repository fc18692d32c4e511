use Rattle.std.proofs.Common.{rules}
use Rattle.parallel_streams.proofs.handover.hand_over.Goals as goal

-- bounded: a wrong body would search to its limit
pub returns-clause-acc : goal.returns-clause-acc
returns-clause-acc g c = search rules fits 60 depth 3
