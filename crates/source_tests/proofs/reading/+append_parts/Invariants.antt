use Rattle.source_tests.proofs.reading.+append_parts.Given as goal

abbrev pub decreases-append_parts : goal.decreases-append_parts
decreases-append_parts g l = g.S.Spliterator.weight l.split
