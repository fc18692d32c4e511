use Rattle.std.proofs.Common.{rules, map}
use Rattle.stages.specs.Passing.{flat_map-one}
use Rattle.stages.proofs.stateless.NothingStage.feed_all.Goals as goal

pub returns-clause-taken : goal.returns-clause-taken
returns-clause-taken g c = rw (flat_map-one (map g.T.Value.content c.args.items.now.items)) (search rules)
