use Rattle.std.proofs.Common.{◌≡◌, ◌≤◌, ◌+ℤ◌, ◌-◌, pos, sym, ap, ◌∙◌, arith, rules, w64, to_z, of_z}
use Rattle.std.specs.Prelude.{FitsSigned}
use Rattle.std.proofs.lemmas.Int.{ints}
use Rattle.sources.specs.Integers.{integers}
use Rattle.sources.specs.IntegersLaws.{drop-integers, drop-integers_all}
use Rattle.sources.proofs.range.RangeSplitPlaced.after_first.Goals as goal

pub returns-then-number-self : goal.returns-then-number-self
returns-then-number-self c =
    let s = c.args.self in
    let all = c.if-number-self.true in
    sym (drop-integers_all s.next c.args.number s.left (omega arith))

pub returns : goal.returns
returns c =
    let s = c.args.self in
    let n = c.args.number in
    let fits : FitsSigned w64 s.next = search rules in
    let few = c.if-number-self.false in
    let within : n ≤ s.left = omega arith in
    let next : to_z w64 (of_z w64 (to_z w64 (of_z w64 s.next) +ℤ to_z w64 n)) ≡ s.next +ℤ pos n = omega (arith, ints, s.few, s.within_type) in
    ap (λ a. integers a (s.left - n)) next ∙ sym (drop-integers s.next n s.left within)
