use Rattle.std.proofs.Common.{ap, ◌∙◌}
use Rattle.derived_collectors.specs.PlaceLaws.{placed}
use Rattle.derived_collectors.proofs.first_places.FirstPlacesCollector.finish.Goals as goal

pub returns : goal.returns
returns g c =
    let collector = c.args.self.now in
    λ l values made. c.truncate.ensures.items ∙ ap (λ a. a.1) (made ∙ placed (g.P.Test.holds collector.test) collector.number l)
