use Rattle.std.proofs.Common.{ℤ, List, subst}
use Rattle.std.proofs.lemmas.List.Concat.{flat_map_single}
use Rattle.pipeline_meaning.specs.Functions.{text_length}
use Rattle.pipeline_value.specs.{Typed.number_body_told, Value.Tells}
use Rattle.pipeline_value.proofs.texts.lengths_value.Goals as goal

pub returns : goal.returns
returns g c =
    let Q : List ℤ → Type 0 = λ l. Tells (number_body_told c.args.body.now l) c.number_value.result in
    subst Q (flat_map_single text_length (g.X.Plumbing.value c.args.texts)) (rw (c.as_slice-stages.ensures.value, c.map.ensures.upstream, c.map.ensures.stage) at c.number_value.ensures)
