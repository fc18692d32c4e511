use Rattle.std.proofs.Common.{rules}
use Rattle.std.proofs.lemmas.Int.{wraps}
use Rattle.source_tests.proofs.of_sources.steps.sum.Goals as goal

pub returns : goal.returns
returns c = search (rules, wraps)
