use Rattle.std.proofs.Common.{sym}
use Rattle.sources.specs.IntegersLaws.{length-integers}
use Rattle.sources.proofs.range.RangeSplitPlaced.count.Goals as goal

pub returns : goal.returns
returns c = sym (length-integers c.args.self.now.next c.args.self.now.left)
