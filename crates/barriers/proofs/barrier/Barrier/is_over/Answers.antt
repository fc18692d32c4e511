use Rattle.std.proofs.Common.{◌≡◌, Some, ◌∙◌, rules}
use Rattle.barriers.specs.NeedLaws.{nothing-needed}
use Rattle.barriers.proofs.barrier.Barrier.is_over.Goals as goal

pub returns-in-Reach-eq0-clause-over : goal.returns-in-Reach-eq0-clause-over
returns-in-Reach-eq0-clause-over g c = λ _ more.
    let b = c.args.self.now in
    let state = c.args.state.now in
    let B = g.Self.Barrier in
    let laws = g.met.Self.Barrier in
    let none : B.needed_behind b state ≡ Some 0 = search (rules, c.in-Reach-eq0.ensures.is, c.in-Reach-eq0.field-0-is) in
    nothing-needed (B.needed_behind b state) (g.Self.Demand.counted b) (B.value_behind b state) (laws.enough_behind b state) none more
    ∙ laws.of_nothing b state
