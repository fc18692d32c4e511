use Rattle.std.proofs.Common.{◌≡◌, length}
use Rattle.file_words.specs.WordReading.{behind, numbers_from}
use Rattle.file_words.specs.Words.{words_left, words_of}
use Rattle.file_words.proofs.words.numbers_of.Given as goal

abbrev pub invariant-loop-left : goal.invariant-loop-left
invariant-loop-left l = numbers_from (words_of l.line) l.before ≡ behind l.numbers.items (numbers_from (words_left l.left) l.good)

abbrev pub decreases-loop-left : goal.decreases-loop-left
decreases-loop-left l = length (words_left l.left)
