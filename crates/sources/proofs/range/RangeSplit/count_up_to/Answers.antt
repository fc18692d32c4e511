use Rattle.std.proofs.Common.{rules, w64, arith}
use Rattle.std.specs.Prelude.{FitsSigned}
use Rattle.sources.proofs.RangeBounds.{filter-above, none-up_to, some-up_to}
use Rattle.sources.specs.IntegersLaws.{length-integers}
use Rattle.sources.proofs.range.RangeSplit.count_up_to.Goals as goal

pub returns-then-bound-self-clause-rest : goal.returns-then-bound-self-clause-rest
returns-then-bound-self-clause-rest c =
    let s = c.args.self.now in
    let fits : FitsSigned w64 s.next = search rules in
    filter-above s.next s.left 0 c.args.bound (none-up_to s.next c.args.bound s.left fits c.ranges.bound c.if-bound-self.true)

pub returns-clause-rest : goal.returns-clause-rest
returns-clause-rest c =
    let s = c.args.self.now in
    let fits : FitsSigned w64 s.next = search rules in
    filter-above s.next s.left c.min.result c.args.bound (some-up_to s.next c.args.bound s.left fits c.ranges.bound c.abs_diff.result c.saturating_add.result c.min.result c.if-bound-self.false c.abs_diff.ensures c.saturating_add.ensures c.min.ensures s.few)

pub returns-clause-within : goal.returns-clause-within
returns-clause-within c =
    let s = c.args.self.now in
    let count = length-integers s.next s.left in
    let least = c.min.ensures in
    omega (arith, count, least)
