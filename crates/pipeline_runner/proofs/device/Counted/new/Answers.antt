use Rattle.std.proofs.Common.{refl}
use Rattle.pipeline_runner.proofs.device.Counted.new.Goals as goal

-- by computing: a wrong body would search to its limit
pub returns-clause-count : goal.returns-clause-count
returns-clause-count g c = refl
