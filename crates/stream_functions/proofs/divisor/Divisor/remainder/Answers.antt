use Rattle.std.proofs.Common.{rules}
use Rattle.stream_functions.proofs.divisor.Divisor.remainder.Goals as goal

-- bounded: a wrong body would search to its limit
pub returns-then-x-lt0-2 : goal.returns-then-x-lt0-2
returns-then-x-lt0-2 c = search rules fits 60 depth 3
