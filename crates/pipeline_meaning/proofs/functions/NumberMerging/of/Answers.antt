use Rattle.std.proofs.Common.{rules}
use Rattle.pipeline_meaning.specs.Functions.{merging_join-associative}
use Rattle.pipeline_meaning.specs.declared.functions.NumberJoining.TheVariants.{Sum}
use Rattle.pipeline_meaning.specs.declared.functions.NumberMerging.TheVariants.{Joined}
use Rattle.pipeline_meaning.proofs.functions.NumberMerging.of.Goals as goal

pub returns-in-Sum-clause-associative : goal.returns-in-Sum-clause-associative
returns-in-Sum-clause-associative c = merging_join-associative (Joined Sum)

-- bounded: a wrong body would search to its limit
pub returns-in-Max-clause-join : goal.returns-in-Max-clause-join
returns-in-Max-clause-join c = search rules fits 60 depth 3
