use Rattle.std.proofs.Common.{rules}
use Rattle.std.proofs.lemmas.Int.{wraps}
use Rattle.derived_collectors.proofs.summarizing.wrapping_sum.Goals as goal

pub returns : goal.returns
returns c = search (rules, wraps)
