use Rattle.std.proofs.Common.{◌∙◌, ap, sym}
use Rattle.stages.specs.Tests.{holds_where_there}
use Rattle.stages.proofs.function.OptionTest.holds.Goals as goal

pub returns-in-Some : goal.returns-in-Some
unfolding holds_where_there
returns-in-Some g c =
    c.holds.ensures ∙ ap (λ test. holds_where_there g.P.Test.holds test (g.T.Value.content c.args.x.now)) (sym c.in-Some.is)

pub returns-in-None : goal.returns-in-None
unfolding holds_where_there
returns-in-None g c =
    ap (λ test. holds_where_there g.P.Test.holds test (g.T.Value.content c.args.x.now)) (sym c.in-None.is)
