use Rattle.std.proofs.Common.{rules}
use Rattle.pipeline_runner.proofs.device.CountedInput.read.Goals as goal

-- bounded: a wrong body would search to its limit
pub returns-then-is_err-clause-count : goal.returns-then-is_err-clause-count
returns-then-is_err-clause-count g c = search rules fits 60 depth 3

pub returns-else-is_err-clause-count : goal.returns-else-is_err-clause-count
returns-else-is_err-clause-count g c = search rules fits 60 depth 3
