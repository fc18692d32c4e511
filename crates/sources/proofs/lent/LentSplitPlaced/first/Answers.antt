use Rattle.std.proofs.Common.{map, ap, sym, ◌∙◌}
use Rattle.std.proofs.lemmas.List.{take-map}
use Rattle.sources.proofs.lent.LentSplitPlaced.first.Goals as goal

pub returns : goal.returns
returns g c = ap (map g.T.Value.content) c.front_of.ensures ∙ sym (take-map g.T.Value.content c.args.most c.args.self.items.now)
