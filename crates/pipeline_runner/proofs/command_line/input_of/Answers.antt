use Rattle.std.proofs.Common.{rules}
use Rattle.pipeline_runner.proofs.command_line.input_of.Goals as goal

-- bounded: a wrong body would search to its limit
pub returns : goal.returns
returns g c = search rules fits 60 depth 3
