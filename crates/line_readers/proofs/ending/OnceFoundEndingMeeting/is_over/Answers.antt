use Rattle.std.proofs.Common.{sym, ◌∙◌}
use Rattle.line_readers.specs.Meeting.{meets-more}
use Rattle.line_readers.proofs.ending.OnceFoundEndingMeeting.is_over.Goals as goal

pub returns : goal.returns
returns g c = λ h l more values made out told. told ∙ sym (meets-more (g.P.Test.holds c.args._collector.now.test) l more c.args.acc.now h made)
