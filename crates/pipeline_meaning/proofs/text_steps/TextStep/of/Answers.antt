use Rattle.pipeline_meaning.proofs.TextFronts.{itself-step, filter-step}
use Rattle.pipeline_meaning.proofs.text_steps.TextStep.of.Goals as goal

pub returns-in-Map : goal.returns-in-Map
returns-in-Map c = itself-step c.args.stage.now c.in-Map.is

pub returns-in-Filter : goal.returns-in-Filter
returns-in-Filter c = filter-step c.args.stage.now c.in-Filter.test c.of.result c.in-Filter.is c.of.ensures
