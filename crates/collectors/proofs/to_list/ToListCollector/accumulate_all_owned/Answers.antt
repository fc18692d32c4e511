use Rattle.std.proofs.Common.{map, sym, ap, ◌∙◌}
use Rattle.std.proofs.lemmas.List.{map-append}
use Rattle.collectors.specs.NestedLaws.{push_all}
use Rattle.collectors.proofs.to_list.ToListCollector.accumulate_all_owned.Goals as goal

pub returns : goal.returns
returns g c =
    let content = g.T.Value.content in
    let before = c.args.acc.now in
    let items = c.args.items.now.items in
    ap (map content) c.in_ok-append.ensures ∙ map-append content before items
    ∙ sym (push_all (map content before) (map content items))
