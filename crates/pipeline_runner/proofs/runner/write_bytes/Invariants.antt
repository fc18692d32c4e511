use Rattle.std.proofs.Common.{◌≡◌, length}
use Rattle.pipeline_runner.specs.Device.{AppendsBefore}
use Rattle.pipeline_runner.proofs.runner.write_bytes.Given as goal

-- what stands before the rest was written, and no write has failed
abbrev pub invariant-loop-rest : goal.invariant-loop-rest
invariant-loop-rest g l = record {
  bytes : AppendsBefore (g.O.Output.contents l.initial.output) (g.O.Output.contents l.output) l.rest l.bytes;
  failed : g.O.Output.failed l.output ≡ g.O.Output.failed l.initial.output;
}

abbrev pub decreases-loop-rest : goal.decreases-loop-rest
decreases-loop-rest g l = length l.rest
