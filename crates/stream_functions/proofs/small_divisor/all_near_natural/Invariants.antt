use Rattle.std.proofs.Common.{◌<◌, ◌^◌, ◌↔◌, take, All}
use Rattle.stream_functions.specs.Near.{IsNearNatural}
use Rattle.stream_functions.proofs.small_divisor.all_near_natural.Given as goal

abbrev pub invariant-loop-x : goal.invariant-loop-x
invariant-loop-x l = l.digits < 2 ^ 31 ↔ All IsNearNatural (take l.x-index l.items)
