use Rattle.std.proofs.Common.{◌∙◌, ap₂}
use Rattle.std.proofs.lemmas.Result.{on_ok_weaker}
use Rattle.std.proofs.lemmas.List.Elements.{All-append}
use Rattle.collectors.specs.Laws.{merge_folds}
use Rattle.collectors.proofs.container.combine_containers.Goals as goal

pub returns : goal.returns
returns g c = λ l r made_l made_r.
    let laws = g.met.C.Collector.laws c.args.collector.now in
    on_ok_weaker c.combine.result
    (λ e. (
      All-append g.C.Item.Value.is_value l r made_l.0 made_r.0,
      e ∙ ap₂ (g.C.Collector.merge c.args.collector.now) made_l.1 made_r.1 ∙ merge_folds _ _ _ _ laws l r made_l.0 made_r.0,
    ))
    c.combine.ensures
