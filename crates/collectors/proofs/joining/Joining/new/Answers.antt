use Rattle.std.proofs.Common.{refl}
use Rattle.collectors.proofs.joining.Joining.new.Goals as goal

-- by computing: a wrong body would search to its limit
pub returns-clause-delimiter : goal.returns-clause-delimiter
returns-clause-delimiter g c = refl

pub returns-clause-prefix : goal.returns-clause-prefix
returns-clause-prefix g c = refl
