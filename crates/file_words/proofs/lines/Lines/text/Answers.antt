use Rattle.std.proofs.Common.{subst, sym, All, IsSome, IsUtf8}
use Rattle.file_words.{specs.Pieces.piece_bytes, proofs.LineLemmas.given_as_text}
use Rattle.file_words.proofs.lines.Lines.text.Goals as goal

pub returns-clause-given : goal.returns-clause-given
returns-clause-given c texts = subst IsSome (sym c.ok.ensures.value) (given_as_text (piece_bytes c.self.inside.rest) c.text.result (subst (All IsUtf8) (sym c.self.view_is) texts) c.text.ensures)
