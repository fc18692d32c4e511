use Rattle.collectors.proofs.strands.begin.Goals as goal

pub returns-clause-first : goal.returns-clause-first
returns-clause-first g c = c.in_ok-join.ensures

pub returns-clause-second : goal.returns-clause-second
returns-clause-second g c = c.requires.clones c.args.b.now c.in_ok-clone.field-0 c.in_ok-clone.ensures.cases

pub returns-clause-third : goal.returns-clause-third
returns-clause-third g c = c.requires.clones c.args.c.now c.in_ok-clone-2.field-0 c.in_ok-clone-2.ensures.cases

pub returns-clause-fourth : goal.returns-clause-fourth
returns-clause-fourth g c = c.requires.clones c.args.d.now c.in_ok-clone-3.field-0 c.in_ok-clone-3.ensures.cases
