use Rattle.std.proofs.Common.{◌≡◌, ◌∙◌, ◌<◌, ◌^◌, length, rules, w64, to_z, of_z, FitsSigned}
use Rattle.std.specs.Int.{cast_signed}
use Rattle.stages.specs.Wrapping.{wrapped_sum}
use Rattle.collectors.proofs.Counted.{counted}
use Rattle.collectors.proofs.counting.CountingCollector.accumulate_all.Goals as goal

-- bounded: a wrong body would search to its limit
pub returns : goal.returns
returns g c =
    let items = c.args.items.now in
    let fits : FitsSigned w64 c.args.acc.now = search rules fits 60 depth 3 in
    let few : length items < 2 ^ 64 = search rules fits 60 depth 3 in
    let sum : to_z w64 (of_z w64 c.wrapping_sum.result) ≡ wrapped_sum c.args.acc.now (cast_signed w64 (length items)) = search rules fits 60 depth 3 in
    sum ∙ counted g.T.Value.content c.args.acc.now items fits few
