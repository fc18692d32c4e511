use Rattle.std.proofs.Common.{refl}
use Rattle.std.proofs.lemmas.Result.{on_ok_weaker}
use Rattle.collectors.proofs.grouping.finish_group.Goals as goal

pub returns : goal.returns
returns g c =
    on_ok_weaker c.add_entry.result
    (λ added. ((c.args.group.0, c.in_ok-result.result), (refl, c.in_ok-result.ensures), added))
    c.add_entry.ensures
