use Rattle.std.proofs.Common.{rules}
use Rattle.pipeline_runner.proofs.runner.settings_for.Goals as goal

-- bounded: a wrong body would search to its limit
pub returns-in-Some-clause-large : goal.returns-in-Some-clause-large
returns-in-Some-clause-large c = search rules fits 60 depth 3
