use Rattle.std.proofs.Common.{refl}
use Rattle.stages.proofs.flags.StreamFlags.of.Goals as goal

-- by computing: a wrong body would search to its limit
pub returns : goal.returns
returns c = refl
