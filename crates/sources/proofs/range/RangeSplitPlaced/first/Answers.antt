use Rattle.std.proofs.Common.{◌≡◌, ◌≤◌, sym, ap, ◌∙◌, arith, rules, w64, to_z, of_z}
use Rattle.std.specs.Prelude.{FitsSigned}
use Rattle.std.proofs.lemmas.Int.{ints}
use Rattle.sources.specs.Integers.{integers}
use Rattle.sources.specs.IntegersLaws.{take-integers, take-integers_all}
use Rattle.sources.proofs.range.RangeSplitPlaced.first.Goals as goal

pub returns-then-most-self : goal.returns-then-most-self
returns-then-most-self c =
    let s = c.args.self in
    let all = c.if-most-self.true in
    sym (take-integers_all s.next c.args.most s.left (omega arith))

pub returns : goal.returns
returns c =
    let s = c.args.self in
    let m = c.args.most in
    let fits : FitsSigned w64 s.next = search rules in
    let few = c.if-most-self.false in
    let within : m ≤ s.left = omega arith in
    let next : to_z w64 (of_z w64 s.next) ≡ s.next = omega (arith, ints) in
    ap (λ a. integers a m) next ∙ sym (take-integers s.next m s.left within)
