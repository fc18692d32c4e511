use Rattle.std.proofs.Common.{◌∙◌, ap, option_map, subst, sym}
use Rattle.derived_collectors.specs.FirstBest.{is_better, better-ranks, first_best, IsFirstBestBy}
use Rattle.derived_collectors.proofs.KeptItems.{kept-item}
use Rattle.derived_collectors.proofs.best_by_key.BestByKeyCollector.finish.Goals as goal

pub returns : goal.returns
returns g c = λ l values made.
    let order = g.K.Out.OrderedValue.order in
    let best = c.args.self.now.best in
    let key = g.K.Mapping.image c.args.self.now.key in
    let kept = option_map (λ k. (g.T.Value.content k.item, g.K.Out.Value.content k.key)) c.args.acc in
    subst (IsFirstBestBy (is_better best order) key l)
    (kept-item g.T.Value.content g.K.Out.Value.content c.args.acc ∙ ap (option_map g.T.Value.content) (sym c.item_of.ensures))
    (first_best (is_better best order) key (better-ranks best order g.K.Out.OrderedValue.order_total) l kept made)
