use Rattle.std.proofs.{Common.refl, lemmas.Str.is_utf8-from_IsUtf8}
use Rattle.file_words.proofs.lines.known_text.Goals as goal

pub returns : goal.returns
returns c = (refl, is_utf8-from_IsUtf8 c.args.text.now c.utf8.text)
