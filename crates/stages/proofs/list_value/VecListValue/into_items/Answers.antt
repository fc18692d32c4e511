use Rattle.std.proofs.Common.{refl}
use Rattle.stages.proofs.list_value.VecListValue.into_items.Goals as goal

-- by computing: a wrong body would search to its limit
pub returns : goal.returns
returns g c = refl
