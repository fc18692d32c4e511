use Rattle.line_readers.proofs.reading.work_and_read.Goals as goal

pub returns-clause-worked : goal.returns-clause-worked
returns-clause-worked g c = λ whole l taken. rw c.in_ok-taken.was at c.join-ahead.ensures.second whole l taken
