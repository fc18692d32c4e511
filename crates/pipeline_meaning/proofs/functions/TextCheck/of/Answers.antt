use Rattle.std.proofs.Common.{refl}
use Rattle.pipeline_meaning.proofs.functions.TextCheck.of.Goals as goal

-- bounded: a wrong body would search to its limit
pub returns : goal.returns
returns c = refl
