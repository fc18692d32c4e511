use Rattle.std.proofs.Common.{rules}
use Rattle.pipeline_value.proofs.maps.text_map.Goals as goal

-- bounded: a wrong body would search to its limit
pub returns-in-Itself : goal.returns-in-Itself
returns-in-Itself g c = search rules fits 200 depth 4
