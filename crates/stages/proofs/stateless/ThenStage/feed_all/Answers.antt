use Rattle.std.proofs.Common.{rules, sym, map}
use Rattle.stages.specs.Passing.{flat_map-flat_map}
use Rattle.stages.proofs.stateless.ThenStage.feed_all.Goals as goal

pub returns-clause-taken : goal.returns-clause-taken
returns-clause-taken g c =
    rw (sym (flat_map-flat_map (g.A.Stage.expand c.args.self.now.first) (g.B.Stage.expand c.args.self.now.second) (map g.A.In.Value.content c.args.items.now.items))) (search rules)
