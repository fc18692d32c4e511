use Rattle.std.proofs.Common.{rules}
use Rattle.std.proofs.lemmas.Int.{wraps}
use Rattle.stages.proofs.operators.WrapAddOperatorI64.join.Goals as goal

pub returns : goal.returns
returns c = search (rules, wraps)
