use Rattle.std.proofs.Common.{rules}
use Rattle.collectors.proofs.reducing.ReducingCollector.combine.Goals as goal

-- bounded: a wrong body would search to its limit
pub returns-in-Some-left : goal.returns-in-Some-left
returns-in-Some-left g c = search rules fits 60 depth 3
