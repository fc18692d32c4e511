use Rattle.std.proofs.Common.{rules}
use Rattle.pipeline_runner.proofs.command_line.settings_of.Goals as goal

-- bounded: a wrong body would search to its limit
pub returns-clause-workers : goal.returns-clause-workers
returns-clause-workers c = search rules fits 60 depth 3

-- bounded: a wrong body would search to its limit
pub returns-clause-target : goal.returns-clause-target
returns-clause-target c = search rules fits 60 depth 3
