use Rattle.std.proofs.Common.{◌≡◌, ◌+◌, ◌∙◌, ap, map, length, arith, Ok, ℕ, [], ◌∷◌}
use Rattle.std.proofs.lemmas.List.{length-append}
use Rattle.pipeline_language.specs.Content.{text_body, text_stage, text_line_content}
use Rattle.pipeline_language.specs.Syntax.{TextKind, comes}
use Rattle.pipeline_reader.proofs.LoopLemmas.{told_behind, stage_more, text_keeps}
use Rattle.pipeline_reader.proofs.reading.read_text_body.Goals as goal

pub returns-in-Err : goal.returns-in-Err
returns-in-Err c =
    told_behind text_line_content text_body (map text_stage c.lines.stages.items) (comes c.args.version TextKind) c.args.number c.len-before.result (length c.lines.stages.items) (c.len-before.ensures ∙ c.lines.stages.ok.0) c.lines.lines _ c.in-Err.e c.lines.invariant.read c.in-Err.ensures.line

pub lines-preserved : goal.lines-preserved
lines-preserved c =
    let n : ℕ = length c.lines.stages.items in
    let more : ℕ = length c.push.new.self.items in
    let count : more ≡ n + 1 = omega (arith, ap length c.in_ok-push-in-Ok-Stage.ensures.items, length-append c.lines.stages.items (c.in-Ok-Stage.stage ∷ [])) in
    record {
      taken = omega (arith, count, c.lines.invariant.taken, c.in-Ok-Stage.ensures.taken);
      read = stage_more c.args.version text_stage TextKind text_keeps (λ k. k) c.args.number c.len-before.result n more (c.len-before.ensures ∙ c.lines.stages.ok.0) count count
          c.lines.stages.items c.push.new.self.items c.in-Ok-Stage.stage c.lines.lines c.read_text_first.new.lines _
          c.in_ok-push-in-Ok-Stage.ensures.items c.in-Ok-Stage.ensures.rest c.lines.invariant.read (c.in-Ok-Stage.ensures.line ∙ ap (λ b. Ok (text_line_content b)) c.in-Ok-Stage.field-0-is);
    }
