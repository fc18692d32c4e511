use Rattle.wire_form.proofs.kept.ContainersReadsKept.read.Goals as goal

pub returns-clause-known : goal.returns-clause-known
returns-clause-known g c = λ kept known same. c.read.ensures.known known.0 (kept, known.1, same)
