use Rattle.std.proofs.Common.{rules, ◌≡◌, ◌∙◌, ap, pos, get_or, to_z, of_z, w32, w64, FitsSigned}
use Rattle.stream_functions.specs.Near.{distance}
use Rattle.stream_functions.proofs.NearNumbers.{near_all, near_both, near_more}
use Rattle.stream_functions.proofs.small_divisor.all_near.Goals as goal

pub loop-x-preserved : goal.loop-x-preserved
loop-x-preserved c =
    let l = c.loop-x in
    let xs = c.args.items.now in
    let is : to_z w64 (of_z w64 (get_or xs l.x-index (pos 0))) ≡ get_or xs l.x-index (pos 0) = search rules in
    near_more (FitsSigned w32) xs l.x-index l.digits c.size-digits.result c.loop-x-test.true (near_both _ c.size-digits.result (c.size-digits.ensures ∙ ap distance is)) l.invariant

pub returns : goal.returns
returns c = near_all (FitsSigned w32) c.args.items.now c.loop-x.x-index c.loop-x.digits c.loop-x-test.false c.loop-x.invariant
