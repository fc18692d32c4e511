use Rattle.std.proofs.Common.{◌≡◌, subst}
use Rattle.std.specs.Prelude.{IfOk, IfSome}
use Rattle.parallel_streams.specs.Terminals.{any_meets}
use Rattle.line_readers.proofs.Told.{same-fault, same-value}
use Rattle.line_readers.proofs.stream.LineStream.any_match_on.Goals as goal

pub returns-clause-faults : goal.returns-clause-faults
returns-clause-faults g c = same-fault c.collect_lines.result c.into_lines-lines.ensures.longest c.into_lines-lines.ensures.known c.collect_lines.ensures.faults

pub returns-clause-value : goal.returns-clause-value
returns-clause-value g c =
    let self = c.args.self in
    let told = same-value (λ values met. met ≡ any_meets (g.P.Test.holds c.new.result.test.now) values) c.collect_lines.result c.into_lines-lines.ensures.known c.into_lines-lines.ensures.value c.collect_lines.ensures.value in
    subst (λ test. IfOk c.collect_lines.result (λ met. IfSome (g.Self.LineStream.known self) (λ bytes. met ≡ any_meets (g.P.Test.holds test.now) (g.Self.LineStream.value self bytes)))) c.new.ensures told
