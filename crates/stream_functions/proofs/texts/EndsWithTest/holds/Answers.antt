use Rattle.std.proofs.Common.{ap, ◌∙◌}
use Rattle.std.specs.Prelude.{◌==◌}
use Rattle.std.specs.List.{ends_with}
use Rattle.std.proofs.lemmas.Str.Pattern.{ends_text}
use Rattle.stream_functions.proofs.texts.EndsWithTest.holds.Goals as goal

pub returns : goal.returns
returns g c = ends_text _ _ _ c.ends_with.ensures.cases ∙ ap (λ text. ends_with ◌==◌ text c.args.self.now.0.now) c.text.ensures
