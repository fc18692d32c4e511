use Rattle.barriers.proofs.Kept.{new-thinned}
use Rattle.barriers.proofs.distinct.keep_new.Goals as goal

pub returns : goal.returns
returns g c =
    new-thinned g.T.Value.same g.met.T.Value.same_decides g.T.Value.content g.T.PartialEq.eq g.met.T.EqualValue.eq_is_same (λ v. v.items) c.args.came.now.keys c.args.items.items c.in_ok-new.new.items c.first_ones.result
    c.in_ok-new.ensures c.first_ones.ensures
