use Rattle.pipeline_language.proofs.FileLemmas.{some_reading, apart, one_meaning, one_fault_of_file}
use Rattle.pipeline_language.proofs.meaning.one_reading.Goals as goal

pub returns-clause-some : goal.returns-clause-some
returns-clause-some c = some_reading

pub returns-clause-apart : goal.returns-clause-apart
returns-clause-apart c = apart

pub returns-clause-one_meaning : goal.returns-clause-one_meaning
returns-clause-one_meaning c = one_meaning

pub returns-clause-one_fault : goal.returns-clause-one_fault
returns-clause-one_fault c = one_fault_of_file
