use Rattle.std.proofs.Common.{rules}
use Rattle.pipeline_runner.proofs.device.CountedOutput.write.Goals as goal

-- bounded: a wrong body would search to its limit
pub returns-in-Ok-clause-flushed : goal.returns-in-Ok-clause-flushed
returns-in-Ok-clause-flushed g c = search rules fits 60 depth 3

-- bounded: a wrong body would search to its limit
pub returns-in-Ok-clause-count : goal.returns-in-Ok-clause-count
returns-in-Ok-clause-count g c = search rules fits 60 depth 3
