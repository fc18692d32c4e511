use Rattle.std.proofs.Common.{rules}
use Rattle.derived_collectors.proofs.best_by_key.BestByKeyCollector.combine.Goals as goal

-- bounded: a wrong body would search to its limit
pub returns-then-takes_place : goal.returns-then-takes_place
returns-then-takes_place g c = search rules fits 60 depth 3
