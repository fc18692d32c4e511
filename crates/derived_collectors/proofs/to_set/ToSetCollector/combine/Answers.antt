use Rattle.derived_collectors.proofs.SetKeys.{set_merge-put}
use Rattle.derived_collectors.proofs.to_set.ToSetCollector.combine.Goals as goal

pub returns : goal.returns
returns g c =
    set_merge-put g.T.Value.content g.T.PartialEq.eq g.T.Value.same g.met.T.EqualValue.eq_is_same c.args.left.now.keys c.args.right.keys _ c.in_ok-append.ensures.keys
