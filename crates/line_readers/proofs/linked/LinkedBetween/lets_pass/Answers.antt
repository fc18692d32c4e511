use Rattle.line_readers.proofs.Linking.{pass-linked}
use Rattle.line_readers.proofs.linked.LinkedBetween.lets_pass.Goals as goal

pub returns-then-lets_pass-clause-passes : goal.returns-then-lets_pass-clause-passes
returns-then-lets_pass-clause-passes g c = λ passes stages more.
    let barriers = c.args.self.now in
    let state = c.args.state.now in
    pass-linked (g.M.Stage.expand stages.second) (g.Q.Between.value_behind barriers.before stages.first state.before) (g.B.Barrier.value_behind barriers.barrier state.own)
    (g.Q.Stages.Stage.expand stages.first) more (c.lets_pass.ensures.passes c.if-lets_pass.true stages.first more) (c.lets_pass-then-lets_pass.ensures.passes passes)
