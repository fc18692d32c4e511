use Rattle.std.proofs.Common.{rules}
use Rattle.pipeline_meaning.proofs.functions.NumberCheckTestI64.count_meeting.Goals as goal

-- bounded: a wrong body would search to its limit
pub returns-in-Divisible : goal.returns-in-Divisible
returns-in-Divisible c = search rules fits 60 depth 3
