use Rattle.std.proofs.Common.{◌≡◌, ◌∷◌, ◌++◌, [], pos, ◌+ℤ◌, ◌<◌, ◌+◌, ◌^◌, rules, length, ap₂, sym, ◌∙◌, arith, w64, to_z, of_z}
use Rattle.std.proofs.lemmas.Int.{ints}
use Rattle.std.proofs.lemmas.List.{take_more_set, length-set}
use Rattle.std.specs.Prelude.{FitsSigned, ◌<ℤ◌}
use Rattle.sources.proofs.RangeBlocks.{integers_more, stepped}
use Rattle.sources.proofs.range.write_integers.Goals as goal

pub loop-x-preserved : goal.loop-x-preserved
loop-x-preserved c =
    let l = c.loop-x in
    let within : l.x-index < length l.room = omega (arith, c.loop-x-test.true, l.auto.room) in
    let first = to_z w64 (of_z w64 c.args.first) in
    let at : to_z w64 l.number-bits ≡ to_z w64 (of_z w64 c.args.first) +ℤ pos l.x-index = l.invariant.1 within in (
      take_more_set l.room l.x-index _ within ∙ ap₂ (λ xs x. xs ++ x ∷ []) l.invariant.0 at ∙ sym (integers_more _ l.x-index),
      λ h.
          let within_type : FitsSigned w64 (to_z w64 (of_z w64 c.args.first) +ℤ pos l.x-index) = grind (arith, ints, c.ranges.first, c.requires, within, l.auto.room) in
          let word : l.number-bits < 2 ^ 64 = search (rules, l.auto.number-fits) in
          let more : l.x-index + 1 < length l.room = omega (arith, h, length-set l.room l.x-index (to_z w64 l.number-bits)) in
          let below : ((to_z w64 (of_z w64 c.args.first) +ℤ pos l.x-index) +ℤ pos 1) <ℤ pos (2 ^ 63) = omega (arith, ints, c.requires, c.ranges.first, more, l.auto.room) in
          stepped l.number-bits 1 _ word (omega arith) at within_type below ∙ omega (arith, ints),
    )
