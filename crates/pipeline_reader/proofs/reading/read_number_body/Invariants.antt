use Rattle.std.proofs.Common.{◌≡◌, ◌+◌, map, length}
use Rattle.pipeline_language.specs.Content.{number_stage}
use Rattle.pipeline_language.specs.FileReading.{body_from, in_front}
use Rattle.pipeline_language.specs.Syntax.{NumberKind, comes}
use Rattle.pipeline_reader.proofs.reading.read_number_body.Given as goal

abbrev pub invariant-lines : goal.invariant-lines
invariant-lines l = record {
  taken : length l.stages.items + length l.lines ≡ length l.initial.lines;
  read : body_from (comes l.fn.version NumberKind l.fn.before) l.fn.number l.initial.lines ≡ in_front (map number_stage l.stages.items) (body_from (comes l.fn.version NumberKind (l.fn.before + length l.stages.items)) (l.fn.number + length l.stages.items) l.lines);
}

abbrev pub decreases-lines : goal.decreases-lines
decreases-lines l = length l.lines
