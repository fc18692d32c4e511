use Rattle.std.proofs.Common.{sym}
use Rattle.sources.specs.ProgressionLaws.{length-progression}
use Rattle.sources.proofs.progression.ProgressionPlaced.count.Goals as goal

pub returns : goal.returns
returns c = sym (length-progression c.args.self.now.next c.args.self.now.step c.args.self.now.left)
