use Rattle.std.proofs.Common.{◌∙◌, ap}
use Rattle.file_words.{specs.WordReading.is_done, proofs.LineLemmas.is_empty}
use Rattle.file_words.proofs.words.Words.is_empty.Goals as goal

pub returns : goal.returns
returns c = is_empty c.self.inside.rest c.is_none.result c.is_none.ensures ∙ ap (λ left. is_done left.words) c.self.view_is
