use Rattle.std.proofs.Common.{rules}
use Rattle.pipeline_language.proofs.kinds.number_terminal.Goals as goal

-- bounded: a wrong body would search to its limit
pub returns-in_ok-number_function-in-ToMapStrict-2 : goal.returns-in_ok-number_function-in-ToMapStrict-2
returns-in_ok-number_function-in-ToMapStrict-2 c = search rules fits 200 depth 4
