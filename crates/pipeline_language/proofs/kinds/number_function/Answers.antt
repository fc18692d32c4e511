use Rattle.std.proofs.Common.{rules}
use Rattle.pipeline_language.proofs.kinds.number_function.Goals as goal

-- bounded: a wrong body would search to its limit
pub returns-in-Length : goal.returns-in-Length
returns-in-Length c = search rules fits 60 depth 3
