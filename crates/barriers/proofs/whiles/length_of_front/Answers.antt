use Rattle.std.proofs.Common.{arith, sym}
use Rattle.barriers.proofs.Fronts.{front-more, front-ends}
use Rattle.barriers.proofs.whiles.length_of_front.Goals as goal

pub loop-place-preserved : goal.loop-place-preserved
loop-place-preserved g c =
    let more = front-more g.T.Value.content (g.P.Test.holds c.args.test.now) c.args.items.now c.loop-place.place c.index-items-place.result c.loop-place-test.true c.index-items-place.is (sym c.if-not-holds.ensures) in
    omega arith

pub returns-then-not-holds-clause-front : goal.returns-then-not-holds-clause-front
returns-then-not-holds-clause-front g c =
    let ends = front-ends g.T.Value.content (g.P.Test.holds c.args.test.now) c.args.items.now c.loop-place.place c.index-items-place.result c.loop-place-test.true c.index-items-place.is (sym c.if-not-holds.ensures) in
    omega arith
