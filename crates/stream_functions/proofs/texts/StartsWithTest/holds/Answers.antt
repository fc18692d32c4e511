use Rattle.std.proofs.Common.{ap, ◌∙◌}
use Rattle.std.specs.Prelude.{◌==◌}
use Rattle.std.specs.List.{starts_with}
use Rattle.std.proofs.lemmas.Str.Pattern.{starts_text}
use Rattle.stream_functions.proofs.texts.StartsWithTest.holds.Goals as goal

pub returns : goal.returns
returns g c = starts_text _ _ _ c.starts_with.ensures.cases ∙ ap (λ text. starts_with ◌==◌ text c.args.self.now.0.now) c.text.ensures
