use Rattle.std.proofs.Common.{rules}
use Rattle.stream_functions.proofs.Inverses.{twos}
use Rattle.stream_functions.proofs.divisor.Divisor.new.Goals as goal

pub inverse-requires : goal.inverse-requires
inverse-requires c = let n = c.unsigned_abs-number.result in (twos n (search rules) (search rules)).1

pub invariant_of-result-clause-twos_most : goal.invariant_of-result-clause-twos_most
invariant_of-result-clause-twos_most c = let n = c.unsigned_abs-number.result in (twos n (search rules) (search rules)).0

pub invariant_of-result-clause-twos_divide : goal.invariant_of-result-clause-twos_divide
invariant_of-result-clause-twos_divide c = let n = c.unsigned_abs-number.result in (twos n (search rules) (search rules)).2

-- bounded: a wrong body would search to its limit
pub returns : goal.returns
returns c = search rules fits 60 depth 3
