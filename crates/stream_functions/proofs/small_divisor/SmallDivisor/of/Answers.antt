use Rattle.stream_functions.proofs.NearNumbers.{half_reciprocal}
use Rattle.stream_functions.proofs.small_divisor.SmallDivisor.of.Goals as goal

pub invariant_of-result-clause-reciprocal_is : goal.invariant_of-result-clause-reciprocal_is
invariant_of-result-clause-reciprocal_is c = half_reciprocal c.args.divisor.reciprocal c.args.divisor.number c.args.divisor.reciprocal_is
