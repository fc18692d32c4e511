use Rattle.std.proofs.Common.{rules}
use Rattle.parallel_streams.proofs.stream.Stream.to_map_strict.Goals as goal

-- bounded: a wrong body would search to its limit
pub returns-in-Ok-Err-clause-settings : goal.returns-in-Ok-Err-clause-settings
returns-in-Ok-Err-clause-settings g c = search rules fits 60 depth 3
