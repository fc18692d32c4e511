use Rattle.std.proofs.Common.{◌≡◌, List, Option, None, option_map, subst}
use Rattle.std.specs.Prelude.{IfOk}
use Rattle.collectors.specs.Laws.{IsContainerOf}
use Rattle.collectors.specs.Reductions.{earlier, reduce_add}
use Rattle.parallel_streams.proofs.Searching.{found-first}
use Rattle.parallel_streams.proofs.segments.first_item.Goals as goal

pub returns : goal.returns
returns g c =
    let content = g.X.Item.Value.content in
    let whole = g.X.Plumbing.value c.args.stream.now in
    let made : List g.row.X-Item-Content.Denot → Option g.row.X-Item.Denot → Type 0 = IsContainerOf g.X.Item.Value.is_value (option_map content) None (reduce_add earlier) in
    let hit = found-first made whole c.in_ok-acc.acc c.in_ok-acc.field-0-1 c.in_ok-acc.ensures.found in
    let P : Option g.row.X-Item-Content.Denot → Type 0 = λ o. IfOk c.finish_on.result (λ found. option_map content found ≡ o) in
    subst P hit.2 (c.finish_on.ensures hit.0 hit.1)
