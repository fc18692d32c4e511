use Rattle.std.proofs.Common.{rules}
use Rattle.value_text.proofs.written.BoolWritten.write_to.Goals as goal

-- bounded: a wrong body would search to its limit
pub returns : goal.returns
returns c = search rules fits 60 depth 3
