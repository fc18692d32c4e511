use Rattle.std.proofs.Common.{rules}
use Rattle.pipeline_meaning.proofs.functions.NumberComparison.count_meeting.Goals as goal

-- bounded: a wrong body would search to its limit
pub returns-in-Less : goal.returns-in-Less
returns-in-Less c = search rules fits 60 depth 3
