use Rattle.std.proofs.lemmas.Str.Ascii.{trim_ascii_is}
use Rattle.std.specs.Prelude.{refl}
use Rattle.stream_functions.specs.Texts.{trimmed}
use Rattle.stream_functions.proofs.texts.TrimmedPlainMappingRefStr.image_of.Goals as goal

pub returns : goal.returns
unfolding trimmed
returns c = trim_ascii_is _ _ _ refl c.trim_ascii.ensures.value
