use Rattle.std.proofs.Common.{◌≡◌, Ok, of_z, subst, sym, to_z, rules, w64, ◌∙◌}
use Rattle.std.specs.Fmt.{signed_decimal}
use Rattle.collectors.specs.Sums.{total}
use Rattle.pipeline_value.specs.Value.{Tells}
use Rattle.pipeline_value.proofs.number_end.total_value.Goals as goal

pub returns-in_ok-collect_on-in-Sum : goal.returns-in_ok-collect_on-in-Sum
returns-in_ok-collect_on-in-Sum g c =
    let sum = c.in_ok-collect_on-in-Sum.field-0 in
    let same : to_z w64 (of_z w64 sum) ≡ sum = search rules in
    let told : Tells (Ok (signed_decimal sum)) c.told.result = rw same at c.told.ensures in
    let is = c.in_ok-collect_on-in-Sum.ensures.value ∙ sym (total (λ x. x) (g.X.Plumbing.value c.args.stream.now)) in
    rw c.in-Sum.is (subst (λ n. Tells (Ok (signed_decimal n)) c.told.result) is told)
