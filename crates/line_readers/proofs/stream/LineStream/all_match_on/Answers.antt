use Rattle.std.proofs.Common.{not, sym}
use Rattle.parallel_streams.specs.Meeting.{all-by-any}
use Rattle.parallel_streams.specs.Terminals.{all_meet, any_meets}
use Rattle.line_readers.proofs.Told.{if-not}
use Rattle.line_readers.proofs.stream.LineStream.all_match_on.Goals as goal

pub returns-clause-value : goal.returns-clause-value
returns-clause-value g c =
    let holds = g.P.Test.holds c.args.test.now in
    let value = g.Self.LineStream.value c.args.self in
    if-not _ _ (λ bytes. any_meets (λ x. not (holds x)) (value bytes)) (λ bytes. all_meet holds (value bytes)) (λ bytes. sym (all-by-any holds (value bytes))) c.in_ok-any_match_on.ensures.value
