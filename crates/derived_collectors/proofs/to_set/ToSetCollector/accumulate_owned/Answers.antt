use Rattle.std.proofs.Common.{refl}
use Rattle.derived_collectors.proofs.SetKeys.{set_add-put}
use Rattle.derived_collectors.proofs.to_set.ToSetCollector.accumulate_owned.Goals as goal

pub returns : goal.returns
returns g c =
    set_add-put g.T.Value.content g.T.PartialEq.eq g.T.Value.same g.met.T.EqualValue.eq_is_same c.args.acc.now.keys _ c.args.x c.args.x
    c.in_ok-insert.ensures.keys refl
