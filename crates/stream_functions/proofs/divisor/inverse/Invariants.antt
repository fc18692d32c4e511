use Rattle.std.proofs.Common.{◌≡◌, ◌+◌, ◌*◌, ◌%◌, ◌^◌}
use Rattle.stream_functions.proofs.divisor.inverse.Given as goal

abbrev pub invariant-loop-step : goal.invariant-loop-step
invariant-loop-step l = ((l.odd * l.inverse + l.rest) % 2 ^ 64 ≡ 1) × (l.rest % 2 ^ 2 ^ l._step ≡ 0)
