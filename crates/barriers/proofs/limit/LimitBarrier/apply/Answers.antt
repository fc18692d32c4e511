use Rattle.std.proofs.Common.{map, ap, ◌∙◌, sym}
use Rattle.std.proofs.lemmas.List.{take-map}
use Rattle.barriers.proofs.limit.LimitBarrier.apply.Goals as goal

pub returns-clause-value : goal.returns-clause-value
returns-clause-value g c = ap (map g.T.Value.content) c.truncate.ensures.items ∙ sym (take-map g.T.Value.content c.args.self.now.most c.args.items.items)
