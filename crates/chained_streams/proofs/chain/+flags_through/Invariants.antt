use Rattle.std.proofs.Common.{length}
use Rattle.chained_streams.proofs.chain.+flags_through.Given as goal

abbrev pub decreases-flags_through : goal.decreases-flags_through
decreases-flags_through g l = length l.links.now
