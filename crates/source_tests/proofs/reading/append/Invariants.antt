use Rattle.std.proofs.Common.{length}
use Rattle.source_tests.proofs.reading.append.Given as goal

abbrev pub decreases-loop-item : goal.decreases-loop-item
decreases-loop-item g l = length (g.S.Spliterator.items l.split)
