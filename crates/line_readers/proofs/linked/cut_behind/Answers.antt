use Rattle.std.proofs.Common.{◌≡◌, ◌∙◌, Some, ap, rules, sym}
use Rattle.line_readers.proofs.Cuts.{cut-front, cut-told}
use Rattle.line_readers.proofs.linked.cut_behind.Goals as goal

pub returns-clause-front : goal.returns-clause-front
returns-clause-front g c =
    let told = c.front-taken.ensures in
    let is_one : c.in-Reach-eq1.field-0 ≡ 1 = search rules in
    cut-front g.T.Value.content (g.B.Demand.counted c.args.barrier.now) c.args.items.now.items _ _ _ _ c.truncate.ensures.items c.as_slice.ensures.value
    told.counting told.most told.whole _ (sym c.in-Reach-eq1.ensures.is ∙ ap Some is_one)

pub returns-clause-told : goal.returns-clause-told
returns-clause-told g c =
    let told = c.front-taken.ensures in
    cut-told g.T.Value.content (g.B.Demand.counted c.args.barrier.now) c.args.items.now.items _ _ _ _ c.truncate.ensures.items c.as_slice.ensures.value
    told.counting told.most told.whole _ told.shortest
