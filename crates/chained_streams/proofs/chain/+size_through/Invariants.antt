use Rattle.std.proofs.Common.{length}
use Rattle.chained_streams.proofs.chain.+size_through.Given as goal

abbrev pub decreases-size_through : goal.decreases-size_through
decreases-size_through g l = length l.links.now
