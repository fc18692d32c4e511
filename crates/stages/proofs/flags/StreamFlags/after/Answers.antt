use Rattle.std.proofs.Common.{rules}
use Rattle.stages.proofs.flags.StreamFlags.after.Goals as goal

-- bounded: a wrong body would search to its limit
pub returns-in-Filter : goal.returns-in-Filter
returns-in-Filter c = search rules fits 60 depth 3
