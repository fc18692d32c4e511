use Rattle.std.proofs.{lemmas.Result.err_from_is_err_and, Common.◌∙◌}
use Rattle.pipeline_language.specs.Content.{program_of}
use Rattle.pipeline_runner.proofs.RunLemmas.{value_told}
use Rattle.pipeline_runner.proofs.runner.whole_text.Goals as goal

pub returns-in_err-text-clause-errors : goal.returns-in_err-text-clause-errors
returns-in_err-text-clause-errors g c =
    let p = err_from_is_err_and c.from_residual-in_err-text.result c.from_residual-in_err-text.ensures.1 in
    rw (p.1, p.2) (value_told c.args.file.now (program_of c.in_ok-pipeline.pipeline) c.in_err-text.field-0.0 c.in_ok-pipeline.ensures.meaning c.in_err-text.ensures)

pub returns-clause-text : goal.returns-clause-text
returns-clause-text g c = (program_of c.in_ok-pipeline.pipeline, c.in_ok-text.text, c.in_ok-pipeline.ensures.meaning, c.in_ok-text.ensures, c.in_ok-into_segments.ensures ∙ c.in_ok-push_str.ensures)
