use Rattle.terminals.proofs.first_sorted.FirstSortedCollector.combine.Goals as goal

pub returns : goal.returns
returns g c = c.in_ok-append.ensures
