use Rattle.std.proofs.Common.{ℕ, Option, refl, subst}
use Rattle.barriers.specs.Needs.{Reaches}
use Rattle.leaf_reading.specs.Fronts.{folding}
use Rattle.leaf_reading.proofs.Fronts.{front_full}
use Rattle.leaf_reading.proofs.keeper.KeeperAccSink.is_full.Goals as goal

pub returns : goal.returns
returns g c = λ full xs.
    let k = c.args.self.now in
    let f = folding (g.D.Demand.needed k.demand.now) (g.D.Demand.counted k.demand.now) g.T.Value.is_value (g.C.Collector.empty k.collector.now) (g.C.Collector.add k.collector.now) in
    let R : Option ℕ → Type 0 = λ need. Reaches need k.portion.count in
    (refl, refl, refl, front_full f (g.C.Collector.content k.collector.now) k.portion (subst R c.requires.1.same (c.is_enough.ensures.reached.0 full)) xs)
