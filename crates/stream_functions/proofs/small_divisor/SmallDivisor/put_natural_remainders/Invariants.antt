use Rattle.std.proofs.Common.{◌≡◌, ◌++◌, map, take, drop, pos}
use Rattle.std.specs.Int.{int_rem_euclid}
use Rattle.stream_functions.proofs.small_divisor.SmallDivisor.put_natural_remainders.Given as goal

abbrev pub invariant-loop-x : goal.invariant-loop-x
invariant-loop-x l = l.items ≡ map (λ x. int_rem_euclid x (pos l.self.number)) (take l.x-index l.fn.items) ++ drop l.x-index l.fn.items
