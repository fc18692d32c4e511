use Rattle.std.proofs.Common.{rules, arith, ◌≡◌, ◌<◌, length, ◌∙◌, ap, get_or, to_z, of_z, w64, pos}
use Rattle.std.proofs.Math.ListN.{set}
use Rattle.std.proofs.lemmas.List.Edits.{map_over_more}
use Rattle.stream_functions.proofs.BlockSteps.{get_or_any}
use Rattle.stream_functions.proofs.blocks.map_slice.Goals as goal

pub loop-x-preserved : goal.loop-x-preserved
loop-x-preserved g c =
    let l = c.loop-x in
    let f = g.M.Mapping.image c.args.mapping in
    let x = to_z w64 (of_z w64 (get_or l.items l.x-index (pos 0))) in
    let is : x ≡ get_or l.items l.x-index (pos 0) = search rules in
    let within : l.x-index < length l.items = omega (arith, c.loop-x-test.true, l.auto.items) in
    let again = is ∙ get_or_any l.items l.x-index (pos 0) x within in
    let y : to_z w64 (of_z w64 c.in_ok-x.field-0) ≡ f x = search rules in
    ap (set l.items l.x-index) y ∙ map_over_more f c.args.items.now l.items l.x-index x c.loop-x-test.true l.invariant again
