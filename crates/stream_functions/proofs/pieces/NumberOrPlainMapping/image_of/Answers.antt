use Rattle.std.proofs.Common.{◌≡◌, ◌∙◌, ap, rules, w64, to_z, of_z}
use Rattle.std.specs.Prelude.{unwrap_or}
use Rattle.std.proofs.lemmas.Int.{wraps}
use Rattle.spliterator.specs.Bounded.{wrapped}
use Rattle.stream_functions.proofs.Numerals.{parsed}
use Rattle.stream_functions.specs.Pieces.{number_in}
use Rattle.stream_functions.proofs.pieces.NumberOrPlainMapping.image_of.Goals as goal

pub returns : goal.returns
returns g c =
    let other = c.args.self.now.0 in
    let read = c.ok.ensures.value ∙ parsed c.text.result.now c.parse.result c.parse.ensures.value.0 ∙ ap number_in c.text.ensures in
    let kept : to_z w64 (of_z w64 c.unwrap_or.result) ≡ wrapped c.unwrap_or.result = search (rules, wraps) in
    let own : to_z w64 (of_z w64 other) ≡ other = search (rules, wraps) in
    kept ∙ ap wrapped (c.unwrap_or.ensures ∙ ap (unwrap_or c.ok.result) own ∙ ap (λ o. unwrap_or o other) read)
