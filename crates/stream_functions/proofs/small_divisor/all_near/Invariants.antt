use Rattle.std.proofs.Common.{◌<◌, ◌^◌, ◌↔◌, take, All, FitsSigned, w32}
use Rattle.stream_functions.proofs.small_divisor.all_near.Given as goal

abbrev pub invariant-loop-x : goal.invariant-loop-x
invariant-loop-x l = l.digits < 2 ^ 31 ↔ All (FitsSigned w32) (take l.x-index l.items)
