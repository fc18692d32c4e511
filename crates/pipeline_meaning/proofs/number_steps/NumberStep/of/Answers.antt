use Rattle.pipeline_meaning.proofs.NumberFronts.{map-step, filter-step}
use Rattle.pipeline_meaning.proofs.number_steps.NumberStep.of.Goals as goal

pub returns-in-Map : goal.returns-in-Map
returns-in-Map c = map-step c.args.stage.now c.in-Map.function c.of.result c.in-Map.is c.of.ensures

pub returns-in-Filter : goal.returns-in-Filter
returns-in-Filter c = filter-step c.args.stage.now c.in-Filter.test c.of-in-Filter.result c.in-Filter.is c.of-in-Filter.ensures
