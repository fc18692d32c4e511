use Rattle.std.proofs.Common.{map}
use Rattle.derived_collectors.specs.Sets.{set_of}
use Rattle.derived_collectors.proofs.to_set.ToSetCollector.finish.Goals as goal

pub returns : goal.returns
returns g c = λ l values made. set_of g.T.Value.same g.met.T.Value.same_decides l (map g.T.Value.content c.args.acc.keys) made
