use Rattle.std.proofs.Common.{map}
use Rattle.barriers.specs.AnyBarrierLaws.{lessened-any}
use Rattle.barriers.specs.declared.any_barrier.AnyBarrier.TheVariants.{Limit, TakeWhile}
use Rattle.barriers.specs.declared.any_barrier.AnyState.TheVariants as states
use Rattle.barriers.proofs.any_barrier.AnyBarrierBarrier.carry.Goals as goal

pub returns-in-Limit-Limit-clause-lessened : goal.returns-in-Limit-Limit-clause-lessened
returns-in-Limit-Limit-clause-lessened g c =
    let at = c.in-Limit-Limit in
    let run = c.carry-in-Limit-Limit in
    lessened-any _ g.P.Test.holds (states.Limit run.new.state) (map g.T.Value.content c.args.items.items) run.result
    c.args.self.now (Limit at.barrier) c.args.state.now (states.Limit at.left) at.is-0 at.is-1 run.ensures.lessened

pub returns-in-TakeWhile-TakeWhile-clause-lessened : goal.returns-in-TakeWhile-TakeWhile-clause-lessened
returns-in-TakeWhile-TakeWhile-clause-lessened g c =
    let at = c.in-TakeWhile-TakeWhile in
    let run = c.carry-in-TakeWhile-TakeWhile in
    lessened-any _ g.P.Test.holds (states.TakeWhile run.new.state) (map g.T.Value.content c.args.items.items) run.result
    c.args.self.now (TakeWhile at.barrier) c.args.state.now (states.TakeWhile at.is_open) at.is-0 at.is-1 run.ensures.lessened
