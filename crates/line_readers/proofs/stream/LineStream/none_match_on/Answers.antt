use Rattle.std.proofs.Common.{not, refl}
use Rattle.parallel_streams.specs.Terminals.{any_meets}
use Rattle.line_readers.proofs.Told.{if-not}
use Rattle.line_readers.proofs.stream.LineStream.none_match_on.Goals as goal

pub returns-clause-value : goal.returns-clause-value
returns-clause-value g c =
    let meets = λ (bytes : _). any_meets (g.P.Test.holds c.args.test.now) (g.Self.LineStream.value c.args.self bytes) in
    if-not _ _ meets (λ bytes. not (meets bytes)) (λ bytes. refl) c.in_ok-any_match_on.ensures.value
