use Rattle.std.proofs.Common.{subst}
use Rattle.std.specs.Prelude.{OnOk}
use Rattle.line_readers.proofs.Told.{on-err}
use Rattle.line_readers.proofs.reading.hand_list.Goals as goal

pub returns-clause-taken : goal.returns-clause-taken
returns-clause-taken g c = λ l values made.
    subst (λ items. OnOk c.take_all.result (g.K.Sink.takes c.args.action.now items c.take_all.new.self)) (c.in_ok-items.ensures l (values, made)) c.take_all.ensures.taken

pub returns-in_err-items-clause-spoilt : goal.returns-in_err-items-clause-spoilt
returns-in_err-items-clause-spoilt g c = on-err _ _ (g.met.K.Sink.spoils_nothing c.args.action.now)
