use Rattle.std.proofs.Common.{◌∙◌, ap}
use Rattle.stream_functions.proofs.Numerals.{parsed, option-itself}
use Rattle.stream_functions.specs.Pieces.{number_in}
use Rattle.stream_functions.proofs.pieces.NumberPlainMapping.image_of.Goals as goal

pub returns : goal.returns
returns g c =
    option-itself c.ok.result
    ∙ c.ok.ensures.value ∙ parsed c.text.result.now c.parse.result c.parse.ensures.value.0 ∙ ap number_in c.text.ensures
