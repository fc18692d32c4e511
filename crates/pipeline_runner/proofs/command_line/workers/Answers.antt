use Rattle.std.proofs.Common.{rules}
use Rattle.pipeline_runner.proofs.command_line.workers.Goals as goal

-- bounded: a wrong body would search to its limit
pub returns-clause-rule : goal.returns-clause-rule
returns-clause-rule c = search rules fits 200 depth 4
