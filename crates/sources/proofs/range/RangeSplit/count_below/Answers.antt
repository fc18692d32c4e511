use Rattle.std.proofs.Common.{rules, w64, arith}
use Rattle.std.specs.Prelude.{FitsSigned}
use Rattle.sources.proofs.RangeBounds.{filter-below, none-below, some-below}
use Rattle.sources.specs.IntegersLaws.{length-integers}
use Rattle.sources.proofs.range.RangeSplit.count_below.Goals as goal

pub returns-then-bound-self-clause-front : goal.returns-then-bound-self-clause-front
returns-then-bound-self-clause-front c =
    let s = c.args.self.now in
    let fits : FitsSigned w64 s.next = search rules in
    filter-below s.next s.left 0 c.args.bound (none-below s.next c.args.bound s.left fits c.ranges.bound c.if-bound-self.true)

pub returns-clause-front : goal.returns-clause-front
returns-clause-front c =
    let s = c.args.self.now in
    let fits : FitsSigned w64 s.next = search rules in
    filter-below s.next s.left c.min.result c.args.bound (some-below s.next c.args.bound s.left fits c.ranges.bound c.abs_diff.result c.min.result c.if-bound-self.false c.abs_diff.ensures c.min.ensures)

pub returns-clause-within : goal.returns-clause-within
returns-clause-within c =
    let s = c.args.self.now in
    let count = length-integers s.next s.left in
    let least = c.min.ensures in
    omega (arith, count, least)
