-- The other collector's result on the items that reach it.
use Rattle.std.proofs.Common.{◌∙◌}
use Rattle.pipeline_meaning.specs.Adapting.{adapted_items, adapted_values, fold-adapted}
use Rattle.pipeline_meaning.proofs.adapted.AdaptedCollector.finish.Goals as goal

pub returns : goal.returns
returns g c = λ l values made.
    let d = c.args.self.now.downstream in
    let step = c.args.self.now.step in
    let image = g.F.Mapping.image in
    let holds = g.P.Test.holds in
    c.finish.ensures (adapted_items image holds step l)
    (adapted_values image holds (g.D.Collector.empty d) (g.D.Collector.add d) g.D.Item.Value.is_value g.met.F.Mapping.images_are_values step l values)
    (made ∙ fold-adapted image holds (g.D.Collector.empty d) (g.D.Collector.add d) step l)
