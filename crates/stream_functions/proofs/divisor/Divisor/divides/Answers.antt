use Rattle.std.proofs.Common.{w64, arith, ap, ◌∙◌, ◌/◌, ◌^◌, unsigned_abs}
use Rattle.std.proofs.lemmas.Int.{to_z-of_z}
use Rattle.stream_functions.proofs.Inverses.{multiples}
use Rattle.stream_functions.proofs.Quotients.{divides_size}
use Rattle.stream_functions.proofs.divisor.Divisor.divides.Goals as goal

pub returns : goal.returns
returns c =
    let d = c.args.self.now in
    let n = c.unsigned_abs.result in
    let is = c.unsigned_abs.ensures.value ∙ ap unsigned_abs (to_z-of_z w64 c.args.x c.ranges.x) in
    multiples n d.number (d.number / 2 ^ d.twos) d.inverse d.twos (omega arith) d.least d.twos_most d.twos_divide d.inverse_is _ d.reciprocal c.rotate_right.ensures d.reciprocal_is
    ∙ divides_size c.args.x n d.number d.least is
