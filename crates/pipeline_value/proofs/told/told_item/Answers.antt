-- The text of the item is that of its content.
use Rattle.std.proofs.Common.{subst, ℕ, List, Ok, refl}
use Rattle.value_text.specs.Texts.{optional_tells}
use Rattle.pipeline_value.specs.Value.{Tells}
use Rattle.pipeline_value.proofs.told.told_item.Goals as goal

pub returns : goal.returns
returns g c =
    let P : List ℕ → Type 0 = λ text. Tells (Ok text) c.told.result in
    subst P (optional_tells _ _ _ g.met.T.Spelled.spelled c.args.found.now _ refl) c.told.ensures
