use Rattle.std.proofs.Common.{rules, ◌≡◌, ◌∙◌, ap, to_z, of_z, w64}
use Rattle.stream_functions.proofs.NearNumbers.{natural_both}
use Rattle.stream_functions.proofs.small_divisor.digits_of.Goals as goal

pub returns : goal.returns
returns c =
    let same : to_z w64 (of_z w64 c.args.x) ≡ c.args.x = search rules in
    natural_both c.args.x c.cast_unsigned.result (search rules) (c.cast_unsigned.ensures ∙ ap (of_z w64) same)
