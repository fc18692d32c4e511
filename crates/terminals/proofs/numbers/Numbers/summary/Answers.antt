use Rattle.std.proofs.Common.{subst}
use Rattle.std.proofs.lemmas.List.{map-id}
use Rattle.std.proofs.lemmas.Result.{IfOk-weaker}
use Rattle.derived_collectors.specs.Summaries.{IsSummary}
use Rattle.terminals.proofs.numbers.Numbers.summary.Goals as goal

pub returns : goal.returns
returns g c =
    let numbers = g.Self.Plumbing.value c.args.self.now in
    IfOk-weaker c.collect_on.result _ _ (λ told made. subst (λ l. IsSummary l told) (map-id numbers) made) c.collect_on.ensures.value
