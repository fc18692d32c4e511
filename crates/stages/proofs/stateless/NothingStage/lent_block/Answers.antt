use Rattle.std.proofs.Common.{sym, map}
use Rattle.stages.specs.Passing.{flat_map-one}
use Rattle.stages.proofs.stateless.NothingStage.lent_block.Goals as goal

pub returns : goal.returns
returns g c = record { same = sym (flat_map-one (map g.T.Value.content c.args.items.now)) }
