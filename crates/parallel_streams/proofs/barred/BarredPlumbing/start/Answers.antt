use Rattle.std.proofs.Common.{rules}
use Rattle.parallel_streams.proofs.barred.BarredPlumbing.start.Goals as goal

-- bounded: a wrong body would search to its limit
pub returns-clause-planned : goal.returns-clause-planned
returns-clause-planned g c = search rules fits 60 depth 3

pub returns-clause-entries : goal.returns-clause-entries
returns-clause-entries g c = search rules fits 60 depth 3
