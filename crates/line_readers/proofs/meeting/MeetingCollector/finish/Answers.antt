use Rattle.std.proofs.Common.{◌∙◌}
use Rattle.line_readers.specs.Meeting.{fold-meets}
use Rattle.line_readers.proofs.meeting.MeetingCollector.finish.Goals as goal

pub returns : goal.returns
returns g c = λ l values made. made ∙ fold-meets (g.P.Test.holds c.args.self.now.test) l
