use Rattle.std.proofs.Common.{rules}
use Rattle.pipeline_runner.proofs.runner.read_file.Goals as goal

-- bounded: a wrong body would search to its limit
pub returns-in-Err-clause-failed : goal.returns-in-Err-clause-failed
returns-in-Err-clause-failed g c = search rules fits 60 depth 3

-- bounded: a wrong body would search to its limit
pub slice_bounds-read-end : goal.slice_bounds-read-end
slice_bounds-read-end g c = search rules fits 60 depth 3

-- bounded: a wrong body would search to its limit
pub returns-in-Ok-eq0-clause-bytes : goal.returns-in-Ok-eq0-clause-bytes
returns-in-Ok-eq0-clause-bytes g c = search rules fits 60 depth 3
