use Rattle.std.proofs.Common.{map, ap, sym, ◌∙◌}
use Rattle.std.proofs.lemmas.List.{drop-map}
use Rattle.sources.proofs.slice.SliceSplitPlaced.after_first.Goals as goal

pub returns : goal.returns
returns g c = ap (map g.T.Value.content) c.rest_of.ensures ∙ sym (drop-map g.T.Value.content c.args.number c.args.self.items.now)
