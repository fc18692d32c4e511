use Rattle.std.proofs.Common.{◌+◌, ◌∙◌, map, length}
use Rattle.std.proofs.lemmas.Result.{err_from_is_err_and}
use Rattle.pipeline_language.specs.Content.{number_body, number_stage, number_line_content}
use Rattle.pipeline_language.specs.Syntax.{NumberKind, comes}
use Rattle.pipeline_reader.proofs.LoopLemmas.{told_behind}
use Rattle.pipeline_reader.proofs.reading.read_number_body.Goals as goal

pub returns-in_err-stage : goal.returns-in_err-stage
returns-in_err-stage c =
    let p = err_from_is_err_and c.from_residual.result c.from_residual.ensures.1 in
    rw (p.1, p.2) (told_behind number_line_content number_body (map number_stage c.lines.stages.items) (λ k. comes c.args.version NumberKind (c.args.before + k)) c.args.number c.len-read.result (length c.lines.stages.items) (c.len-read.ensures ∙ c.lines.stages.ok.0)
    c.lines.lines _ c.in_err-stage.field-0.0 c.lines.invariant.read c.in_err-stage.ensures.line)
