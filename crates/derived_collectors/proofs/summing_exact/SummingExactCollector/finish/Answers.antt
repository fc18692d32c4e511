use Rattle.std.proofs.Common.{◌∙◌, to_z-of_z}
use Rattle.derived_collectors.specs.ExactSums.{exact_total}
use Rattle.derived_collectors.proofs.summing_exact.SummingExactCollector.finish.Goals as goal

pub returns : goal.returns
returns g c = λ l values made.
    let number = λ (x : g.row.T-Content.Denot). g.M.Out.Whole.number (g.M.Mapping.image c.args.self.now.number x) in
    to_z-of_z c.ranges.acc ∙ made ∙ exact_total number l
