use Rattle.std.proofs.Common.{rules}
use Rattle.pipeline_runner.proofs.command_line.no_words.Goals as goal

-- bounded: a wrong body would search to its limit
pub returns-clause-other : goal.returns-clause-other
returns-clause-other g c = search rules fits 60 depth 3

-- bounded: a wrong body would search to its limit
pub returns-clause-memory : goal.returns-clause-memory
returns-clause-memory g c = search rules fits 60 depth 3
