use Rattle.std.proofs.Common.{◌≡◌, ◌+◌, ◌-◌, ◌≤◌, map, length, IsUtf8}
use Rattle.pipeline_language.specs.FileReading.{texts_from, in_front}
use Rattle.file_words.specs.Words.{lines_of}
use Rattle.pipeline_reader.proofs.reading.cut_texts.Given as goal

abbrev pub invariant-loop-index : goal.invariant-loop-index
invariant-loop-index l = record {
  text : IsUtf8 l.rest;
  within : l.index ≤ l.fn.count;
  number : length l.texts.items ≡ l.index;
  taken : length l.texts.items + length (lines_of l.rest) ≡ length (lines_of l.fn.text);
  read : texts_from l.fn.count 3 (lines_of l.fn.text) ≡ in_front (map (λ text. text.now) l.texts.items) (texts_from (l.fn.count - l.index) (l.index + 3) (lines_of l.rest));
}
