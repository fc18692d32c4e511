use Rattle.std.proofs.Common.{rules}
use Rattle.collectors.proofs.container.fold_owned.Goals as goal

-- bounded: a wrong body would search to its limit
pub returns : goal.returns
returns g c = search rules fits 800 depth 5
