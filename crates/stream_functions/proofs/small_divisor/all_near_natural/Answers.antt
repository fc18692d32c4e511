use Rattle.std.proofs.Common.{rules, ◌≡◌, ◌<◌, ◌↔◌, ◌^◌, subst, pos, get_or, to_z, of_z, w64}
use Rattle.stream_functions.specs.Near.{IsNearNatural}
use Rattle.stream_functions.proofs.NearNumbers.{near_all, near_more}
use Rattle.stream_functions.proofs.small_divisor.all_near_natural.Goals as goal

pub loop-x-preserved : goal.loop-x-preserved
loop-x-preserved c =
    let l = c.loop-x in
    let xs = c.args.items.now in
    let digits = c.digits_of-digits.result in
    let is : to_z w64 (of_z w64 (get_or xs l.x-index (pos 0))) ≡ get_or xs l.x-index (pos 0) = search rules in
    near_more IsNearNatural xs l.x-index l.digits digits c.loop-x-test.true (subst (λ x. digits < 2 ^ 31 ↔ IsNearNatural x) is c.digits_of-digits.ensures) l.invariant

pub returns : goal.returns
returns c = near_all IsNearNatural c.args.items.now c.loop-x.x-index c.loop-x.digits c.loop-x-test.false c.loop-x.invariant
