use Rattle.std.proofs.Common.{◌≡◌, ℕ, Option, refl, subst, sym, true}
use Rattle.barriers.specs.Needs.{Reaches, CountsNone}
use Rattle.leaf_reading.specs.Fronts.{folding}
use Rattle.leaf_reading.proofs.Fronts.{front_full, front_more}
use Rattle.leaf_reading.proofs.keeper.KeeperAccSink.take.Goals as goal

pub returns-then-is_enough-clause-taken : goal.returns-then-is_enough-clause-taken
returns-then-is_enough-clause-taken g c =
    let k = c.args.self.now in
    let f = folding (g.D.Demand.needed k.demand.now) (g.D.Demand.counted k.demand.now) g.T.Value.is_value (g.C.Collector.empty k.collector.now) (g.C.Collector.add k.collector.now) in
    let R : Option ℕ → Type 0 = λ need. Reaches need k.portion.count in
    (refl, refl, refl, front_full f (g.C.Collector.content k.collector.now) k.portion (subst R c.requires.1.same (c.is_enough.ensures.reached.0 c.if-is_enough.true)) _)

pub returns-clause-taken : goal.returns-clause-taken
returns-clause-taken g c =
    let k = c.args.self.now in
    let needs = c.requires.1 in
    let f = folding (g.D.Demand.needed k.demand.now) (g.D.Demand.counted k.demand.now) g.T.Value.is_value (g.C.Collector.empty k.collector.now) (g.C.Collector.add k.collector.now) in
    let R : Option ℕ → Type 0 = λ need. Reaches need k.portion.count in
    let N : Option ℕ → Type 0 = λ need. CountsNone need f.counted in
    let under : R f.needed → ⊥ = λ reached. let t : c.is_enough.result ≡ true = c.is_enough.ensures.reached.1 (subst R (sym needs.same) reached) in let e = c.if-is_enough.false in cc in
    (refl, refl, refl, front_more f (g.C.Collector.content k.collector.now) k.portion c.keep.new.portion _ (subst N needs.same needs.never) under c.in_ok-keep.ensures.value c.in_ok-keep.ensures.count c.in_ok-keep.ensures.content)
