use Rattle.std.proofs.Common.{rules}
use Rattle.sources.proofs.concat.ConcatSpliterator.estimate_size.Goals as goal

-- bounded: a wrong body would search to its limit
pub returns-in-Both : goal.returns-in-Both
returns-in-Both g c = search rules fits 60 depth 3
