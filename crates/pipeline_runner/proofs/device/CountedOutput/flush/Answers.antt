use Rattle.std.proofs.Common.{rules}
use Rattle.pipeline_runner.proofs.device.CountedOutput.flush.Goals as goal

-- bounded: a wrong body would search to its limit
pub returns-in-Ok-clause-count : goal.returns-in-Ok-clause-count
returns-in-Ok-clause-count g c = search rules fits 60 depth 3

-- bounded: a wrong body would search to its limit
pub returns-in-Err-clause-count : goal.returns-in-Err-clause-count
returns-in-Err-clause-count g c = search rules fits 60 depth 3
