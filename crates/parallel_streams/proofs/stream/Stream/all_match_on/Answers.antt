use Rattle.std.proofs.Common.{◌∙◌, ap, sym, not}
use Rattle.parallel_streams.specs.Meeting.{all-by-any}
use Rattle.parallel_streams.proofs.stream.Stream.all_match_on.Goals as goal

pub returns : goal.returns
returns g c = ap not c.in_ok-any_match_on.ensures ∙ sym (all-by-any (g.P.Test.holds c.args.test.now) (g.Self.Plumbing.value c.args.self.now))
