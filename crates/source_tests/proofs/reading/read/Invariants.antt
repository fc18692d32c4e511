use Rattle.std.proofs.Common.{length}
use Rattle.source_tests.proofs.reading.read.Given as goal

abbrev pub decreases-loop-items : goal.decreases-loop-items
decreases-loop-items g l = length (g.S.Spliterator.items l.split)
