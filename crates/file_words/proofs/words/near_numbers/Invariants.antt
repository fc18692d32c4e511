use Rattle.std.proofs.Common.{◌≡◌, ◌≤◌, Bool, length}
use Rattle.file_words.specs.WordReading.{behind, numbers_from}
use Rattle.file_words.specs.Words.{words_of}
use Rattle.file_words.proofs.words.near_numbers.Given as goal

abbrev pub invariant-loop-number : goal.invariant-loop-number
invariant-loop-number l = ((good : Bool) → behind l.fn.numbers.items (numbers_from (words_of l.fn.line) good) ≡ behind l.numbers.items (numbers_from (words_of l.left) good)) × (length (words_of l.left) ≤ length (words_of l.fn.line))

abbrev pub decreases-loop-number : goal.decreases-loop-number
decreases-loop-number l = length (words_of l.left)
