use Rattle.std.proofs.Common.{arith, ◌≡◌, ◌≤◌, ◌<◌, ◌-◌, ◌*◌, ◌/◌, ◌^◌, ◌-ℤ◌, ◌∙◌, ap, sym, pos, int_lt, w64}
use Rattle.std.proofs.lemmas.Int.{ints, to_z_pos}
use Rattle.stream_functions.proofs.NearNumbers.{small_below, small_exact, small_corrected, over_is, over_true, over_false}
use Rattle.stream_functions.proofs.small_divisor.SmallDivisor.rest.Goals as goal

pub overflow_sub-rest : goal.overflow_sub-rest
overflow_sub-rest c = let d = c.args.self in
    small_below c.args.x c.from.result d.number c.from-number.result d.reciprocal c.from-2.result d.least c.requires d.reciprocal_is c.from.ensures c.from-2.ensures c.from-number.ensures

pub returns-then-over-lt0 : goal.returns-then-over-lt0
returns-then-over-lt0 c =
    let d = c.args.self in
    let r = c.args.x - c.from.result * c.from-2.result / 2 ^ 32 * c.from-number.result in
    let over = over_is r d.number c.from-3.result (omega (arith, c.requires)) d.most c.from-3.ensures in
    let few : r < d.number = over_true r d.number (ap (λ z. int_lt z (pos 0)) (sym over) ∙ c.if-over-lt0.true) in
    let exact = small_exact c.args.x c.from.result d.number c.from-number.result d.reciprocal c.from-2.result d.least c.requires d.reciprocal_is c.from.ensures c.from-2.ensures c.from-number.ensures few in
    to_z_pos w64 r (omega (arith, c.requires)) ∙ ap pos exact

pub returns-else-over-lt0 : goal.returns-else-over-lt0
returns-else-over-lt0 c =
    let d = c.args.self in
    let r = c.args.x - c.from.result * c.from-2.result / 2 ^ 32 * c.from-number.result in
    let over = over_is r d.number c.from-3.result (omega (arith, c.requires)) d.most c.from-3.ensures in
    let many : d.number ≤ r = over_false r d.number (ap (λ z. int_lt z (pos 0)) (sym over) ∙ c.if-over-lt0.false) in
    let exact = small_corrected c.args.x c.from.result d.number c.from-number.result d.reciprocal c.from-2.result d.least c.requires d.reciprocal_is c.from.ensures c.from-2.ensures c.from-number.ensures many in
    let left : pos r -ℤ pos d.number ≡ pos (r - d.number) = omega (arith, ints, many) in
    over ∙ left ∙ ap pos exact
