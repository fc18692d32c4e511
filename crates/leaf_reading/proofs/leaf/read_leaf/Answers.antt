use Rattle.std.proofs.Common.{refl, [], rules}
use Rattle.leaf_reading.specs.Fronts.{folding}
use Rattle.leaf_reading.proofs.Fronts.{front_none}
use Rattle.leaf_reading.proofs.leaf.read_leaf.Goals as goal

pub returns-in-Ok-true-clause-end : goal.returns-in-Ok-true-clause-end
returns-in-Ok-true-clause-end g c =
    let f = folding (g.D.Demand.needed c.args.reading.now.demand.now) (g.D.Demand.counted c.args.reading.now.demand.now) g.G.Out.Value.is_value (g.C.Collector.empty c.args.reading.now.collector.now) (g.C.Collector.add c.args.reading.now.collector.now) in
    let fed = rw c.in-Ok-true.field-0-test at c.in-Ok-true.ensures.fed in
    fed.3 [] (front_none f (g.C.Collector.content c.args.reading.now.collector.now) _ c.in_ok-kept.ensures refl)

-- bounded: a wrong body would search to its limit
pub returns-in-Ok-false-clause-end : goal.returns-in-Ok-false-clause-end
returns-in-Ok-false-clause-end g c = search rules fits 60 depth 3
