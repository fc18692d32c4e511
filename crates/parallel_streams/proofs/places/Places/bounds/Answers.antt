use Rattle.std.proofs.Common.{arith}
use Rattle.std.proofs.lemmas.Grind.{get_or_default_zero}
use Rattle.parallel_streams.specs.Cuts.{start-within}
use Rattle.parallel_streams.specs.Ends.{ends_of}
use Rattle.parallel_streams.proofs.places.Places.bounds.Goals as goal

pub returns-clause-order : goal.returns-clause-order
returns-clause-order c =
    let ends = ends_of c.args.self.now in
    let within = start-within 0 c.args.len ends c.args.leaf c.requires.cut c.requires.within in
    let first = within.0 in
    let at = get_or_default_zero ends c.args.leaf c.index.result.now c.requires.within in
    omega (arith, first, at, c.start.ensures, c.index.ensures)

pub returns-clause-fits : goal.returns-clause-fits
returns-clause-fits c =
    let ends = ends_of c.args.self.now in
    let within = start-within 0 c.args.len ends c.args.leaf c.requires.cut c.requires.within in
    let last = within.1 in
    let at = get_or_default_zero ends c.args.leaf c.index.result.now c.requires.within in
    omega (arith, last, at, c.index.ensures)
