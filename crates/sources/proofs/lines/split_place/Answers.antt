use Rattle.std.proofs.Common.{rules}
use Rattle.sources.proofs.lines.split_place.Goals as goal

-- bounded: a wrong body would search to its limit
pub before-2-init : goal.before-2-init
before-2-init c = search rules fits 60 depth 3

pub returns-clause-none : goal.returns-clause-none
returns-clause-none c = search rules fits 60 depth 3

pub returns-then-bytes-place-eq10-clause-found : goal.returns-then-bytes-place-eq10-clause-found
returns-then-bytes-place-eq10-clause-found c = search rules fits 60 depth 3
