use Rattle.std.proofs.Common.{ap, ◌∙◌}
use Rattle.std.proofs.lemmas.Str.Pattern.{contains_text}
use Rattle.stream_functions.proofs.Finding.{contained}
use Rattle.stream_functions.specs.Texts.{contains}
use Rattle.stream_functions.proofs.texts.ContainsTest.holds.Goals as goal

pub returns : goal.returns
returns g c = let part = c.args.self.now.0.now in contained part _ _ (contains_text _ _ _ c.contains.ensures.cases) ∙ ap (contains part) c.text.ensures
