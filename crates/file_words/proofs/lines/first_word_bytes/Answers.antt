use Rattle.std.proofs.Common.{◌∙◌, ◌+◌, take, drop, length, refl, sym, le_refl}
use Rattle.std.proofs.lemmas.{List.drop-drop, Slice.between_to_end}
use Rattle.file_words.proofs.LineLemmas.{word_alone, word_cut}
use Rattle.file_words.proofs.lines.first_word_bytes.Goals as goal

pub returns-in-Some : goal.returns-in-Some
returns-in-Some c =
    let line = c.args.line.now in
    let end = c.in-Some.end in
    word_cut line (take end line) (drop end line) _ end c.in-Some.ensures refl refl (between_to_end line (end + 1) (length line) (le_refl _) ∙ sym (drop-drop 1 end line))

pub returns-in-None : goal.returns-in-None
returns-in-None c = word_alone c.args.line.now c.in-None.ensures
