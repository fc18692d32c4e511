use Rattle.std.proofs.Common.{◌+◌, ◌++◌, map, ap, ap₂, ◌∙◌}
use Rattle.derived_collectors.specs.PlaceLaws.{take-put}
use Rattle.derived_collectors.proofs.first_places.FirstPlacesCollector.combine.Goals as goal

pub returns : goal.returns
returns g c =
    let left = c.args.left.now in
    let put = c.in_ok-put_later.ensures ∙ ap (λ l. left.places.items ++ map (λ place. left.items + place) l) c.as_slice.ensures.value in
    ap₂ (λ items places. (items, places)) c.in_ok-left.ensures
    (take-put c.args.self.now.number left.items left.places.items c.args.right.places.items
    c.put_later.new.places.items c.truncate.new.self.items put c.truncate.ensures.items)
