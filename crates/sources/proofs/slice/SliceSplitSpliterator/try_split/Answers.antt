use Rattle.std.proofs.Common.{arith}
use Rattle.std.proofs.lemmas.Grind.{common_steps}
use Rattle.sources.proofs.slice.SliceSplitSpliterator.try_split.Goals as goal

-- with no answer `search` would run first, and on a wrong body to its limit
pub returns : goal.returns
returns g c = grind (arith, common_steps)
