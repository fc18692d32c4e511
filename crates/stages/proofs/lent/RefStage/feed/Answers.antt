use Rattle.std.proofs.Common.{rules}
use Rattle.stages.proofs.lent.RefStage.feed.Goals as goal

-- bounded: a wrong body would search to its limit
pub returns-clause-taken : goal.returns-clause-taken
returns-clause-taken g c = search rules fits 60 depth 3
