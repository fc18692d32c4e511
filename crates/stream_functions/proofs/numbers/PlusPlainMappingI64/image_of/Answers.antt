use Rattle.std.proofs.Common.{rules}
use Rattle.std.proofs.lemmas.Int.{wraps}
use Rattle.stream_functions.proofs.numbers.PlusPlainMappingI64.image_of.Goals as goal

pub returns : goal.returns
returns c = search (rules, wraps)
