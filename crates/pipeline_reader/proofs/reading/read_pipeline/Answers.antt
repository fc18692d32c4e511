use Rattle.std.proofs.Common.{subst}
use Rattle.pipeline_language.specs.{Content.program_of, FileReading.Reads}
use Rattle.pipeline_language.proofs.FileLemmas.{means_is_read, fault_of_file_is_read}
use Rattle.pipeline_reader.proofs.reading.read_pipeline.Goals as goal

pub returns-clause-read : goal.returns-clause-read
returns-clause-read c = λ program is. subst (Reads program_of c.read_bytes.result) (means_is_read c.args.file.now program is) c.read_bytes.ensures

pub returns-clause-told : goal.returns-clause-told
returns-clause-told c = λ fault is. subst (Reads program_of c.read_bytes.result) (fault_of_file_is_read c.args.file.now fault is) c.read_bytes.ensures
