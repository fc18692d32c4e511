use Rattle.std.proofs.Common.{sym}
use Rattle.stages.specs.Passing.{flat_map-one}
use Rattle.line_readers.proofs.between.NoBarrierBetween.lets_pass.Goals as goal

pub returns-clause-passes : goal.returns-clause-passes
returns-clause-passes g c = λ passes stages more. sym (flat_map-one more)
