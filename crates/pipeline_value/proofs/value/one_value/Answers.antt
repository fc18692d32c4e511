use Rattle.std.proofs.Common.{ap}
use Rattle.pipeline_language.proofs.FileLemmas.{one_meaning}
use Rattle.pipeline_value.specs.Value.{program_told}
use Rattle.pipeline_value.proofs.value.one_value.Goals as goal

pub returns : goal.returns
returns c = record { by_file = λ file one other of_one of_other. ap program_told (one_meaning file one other of_one of_other) }
