use Rattle.std.proofs.Common.{◌≡◌, ◌+◌, map, length}
use Rattle.pipeline_language.specs.Content.{text_stage}
use Rattle.pipeline_language.specs.FileReading.{body_from, in_front}
use Rattle.pipeline_language.specs.Syntax.{TextKind, comes}
use Rattle.pipeline_reader.proofs.reading.read_text_body.Given as goal

abbrev pub invariant-lines : goal.invariant-lines
invariant-lines l = record {
  taken : length l.stages.items + length l.lines ≡ length l.initial.lines;
  read : body_from (comes l.fn.version TextKind 0) l.fn.number l.initial.lines ≡ in_front (map text_stage l.stages.items) (body_from (comes l.fn.version TextKind (length l.stages.items)) (l.fn.number + length l.stages.items) l.lines);
}

abbrev pub decreases-lines : goal.decreases-lines
decreases-lines l = length l.lines
