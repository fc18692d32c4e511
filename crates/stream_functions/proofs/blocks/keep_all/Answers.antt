use Rattle.std.proofs.Common.{◌≡◌, ◌∙◌, ap, length, take}
use Rattle.std.specs.Prelude.{filter}
use Rattle.stream_functions.specs.Lists.{filter-flat_map}
use Rattle.stream_functions.proofs.BlockSteps.{written_over}
use Rattle.stream_functions.proofs.blocks.keep_all.Goals as goal

pub returns : goal.returns
returns g c =
    let p = g.P.Test.holds c.args.test in
    let new = c.keep_front-kept.new.items in
    let count : length new ≡ c.args.items.now.len = c.keep_front-kept.auto.items ∙ c.as_mut_slice.ensures.len in
    c.truncate.ensures.items ∙ ap (take c.keep_front-kept.result) (written_over c.args.items.now.len new _ count) ∙ c.keep_front-kept.ensures.kept
    ∙ ap (filter p) c.as_mut_slice.ensures.value ∙ filter-flat_map p c.args.items.now.items
