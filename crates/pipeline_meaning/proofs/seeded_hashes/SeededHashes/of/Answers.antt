use Rattle.std.proofs.Common.{rules}
use Rattle.pipeline_meaning.proofs.seeded_hashes.SeededHashes.of.Goals as goal

-- bounded: a wrong body would search to its limit
pub returns : goal.returns
returns c = search rules fits 60 depth 3
