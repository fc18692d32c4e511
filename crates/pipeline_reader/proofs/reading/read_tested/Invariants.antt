use Rattle.std.proofs.Common.{◌≡◌, ◌+◌, ◌-◌, ◌≤◌, map, length}
use Rattle.pipeline_language.specs.FileReading.{texts_from, in_front}
use Rattle.pipeline_reader.proofs.reading.read_tested.Given as goal

abbrev pub invariant-loop-before : goal.invariant-loop-before
invariant-loop-before l = record {
  within : l.before ≤ l.fn.count;
  number : length l.texts.items ≡ l.before;
  taken : length l.texts.items + length l.lines ≡ length l.initial.lines;
  read : texts_from l.fn.count 3 l.initial.lines ≡ in_front (map (λ text. text.now) l.texts.items) (texts_from (l.fn.count - l.before) (l.before + 3) l.lines);
}
