use Rattle.std.proofs.Common.{rules}
use Rattle.derived_collectors.proofs.keyed.takes_place.Goals as goal

-- bounded: a wrong body would search to its limit
pub returns-in-Some : goal.returns-in-Some
returns-in-Some g c = search rules fits 60 depth 3
