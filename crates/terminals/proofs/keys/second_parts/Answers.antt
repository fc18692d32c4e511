use Rattle.std.proofs.Common.{rules}
use Rattle.terminals.proofs.keys.second_parts.Goals as goal

-- bounded: a wrong body would search to its limit
pub loop-item-init : goal.loop-item-init
loop-item-init g c = search rules fits 60 depth 3
