use Rattle.std.proofs.Common.{rules}
use Rattle.std.proofs.lemmas.Int.{wraps}
use Rattle.collector_tests.proofs.of_collectors.nested.plus.Goals as goal

pub returns : goal.returns
returns c = search (rules, wraps)
