use Rattle.std.proofs.Common.{rules}
use Rattle.pipeline_meaning.proofs.text_summaries.text_summary.Goals as goal

-- bounded: a wrong body would search to its limit
pub returns-clause-summary : goal.returns-clause-summary
returns-clause-summary c = search rules fits 300 depth 5
