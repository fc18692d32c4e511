use Rattle.std.proofs.Common.{◌≡◌, ◌∙◌, ap, length, map}
use Rattle.std.proofs.lemmas.List.{length-map}
use Rattle.stream_functions.specs.Lists.{map-flat_map}
use Rattle.stream_functions.proofs.BlockSteps.{written_over}
use Rattle.stream_functions.proofs.blocks.map_all.Goals as goal

pub returns : goal.returns
returns g c =
    let f = g.M.Mapping.image c.args.mapping in
    let new = c.map_slice.new.items in
    let count : length new ≡ c.args.items.now.len = ap length c.in_ok-map_slice.ensures ∙ length-map c.as_mut_slice.result.now f ∙ c.as_mut_slice.ensures.len in
    written_over c.args.items.now.len new _ count ∙ c.in_ok-map_slice.ensures ∙ ap (map f) c.as_mut_slice.ensures.value ∙ map-flat_map f c.args.items.now.items
