use Rattle.std.proofs.Common.{map}
use Rattle.derived_collectors.specs.ScanLaws.{IsScan-fold}
use Rattle.derived_collectors.proofs.scanning.ScanningCollector.finish.Goals as goal

pub returns : goal.returns
returns g c = λ l values made.
    IsScan-fold (g.O.Operator.join c.args.self.now.operator) l (map g.T.Value.content c.args.acc.items) made
