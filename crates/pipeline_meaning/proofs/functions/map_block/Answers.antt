use Rattle.pipeline_meaning.proofs.NumberFronts.{itself-all}
use Rattle.pipeline_meaning.proofs.functions.map_block.Goals as goal

pub returns-in-Itself : goal.returns-in-Itself
returns-in-Itself c = itself-all c.args.mapping c.args.items.now.items c.in-Itself.is
