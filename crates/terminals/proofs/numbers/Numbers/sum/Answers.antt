use Rattle.std.proofs.Common.{ap, ◌∙◌}
use Rattle.std.proofs.lemmas.List.{map-id}
use Rattle.std.proofs.lemmas.Result.{IfOk-weaker}
use Rattle.stages.specs.Wrapping.{wrapped}
use Rattle.collectors.specs.Sums.{int_sum}
use Rattle.terminals.proofs.numbers.Numbers.sum.Goals as goal

pub returns : goal.returns
returns g c =
    let numbers = g.Self.Plumbing.value c.args.self.now in
    IfOk-weaker c.collect_on.result _ _ (λ sum made. made ∙ ap (λ l. wrapped (int_sum l)) (map-id numbers)) c.collect_on.ensures.value
