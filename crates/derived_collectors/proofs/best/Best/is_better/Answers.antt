use Rattle.std.proofs.Common.{rules}
use Rattle.derived_collectors.proofs.best.Best.is_better.Goals as goal

-- bounded: a wrong body would search to its limit
pub returns-in-Greatest : goal.returns-in-Greatest
returns-in-Greatest g c = search rules fits 200 depth 4
