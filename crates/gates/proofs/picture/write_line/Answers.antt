use Rattle.std.proofs.Common.{rules, arith, append_assoc}
use Rattle.std.proofs.lemmas.Grind.{common_steps}
use Rattle.std.proofs.Output.{has_written_append, has_written_of_eq}
use Rattle.gates.proofs.picture.write_line.Goals as goal

pub returns : goal.returns
returns g c plain ok =
    let one = c.write.ensures.writes plain (search rules) in
    let two = c.write_str.ensures.writes one.plain (search rules) in
    let three = c.write_size.ensures two.plain (search rules) in
    let four = c.write_str-2.ensures.writes three.plain (search rules) in
    let five = c.write_marks.ensures four.plain (search rules) in
    let six = c.write_str-3.ensures.writes five.plain ok in
    let all = has_written_append _ _ _ _ _ _ (has_written_append _ _ _ _ _ _ (has_written_append _ _ _ _ _ _ (has_written_append _ _ _ _ _ _ (has_written_append _ _ _ _ _ _ one two) three) four) five) six in
    has_written_of_eq _ _ _ _ _ (grind (arith, common_steps, append_assoc)) all
