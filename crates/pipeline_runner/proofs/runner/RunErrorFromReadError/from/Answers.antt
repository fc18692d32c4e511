use Rattle.std.proofs.Common.{rules}
use Rattle.pipeline_runner.proofs.runner.RunErrorFromReadError.from.Goals as goal

-- bounded: a wrong body would search to its limit
pub returns-in-Fault : goal.returns-in-Fault
returns-in-Fault c = search rules fits 60 depth 3
