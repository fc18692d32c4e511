use Rattle.std.proofs.Common.{ℕ, Option, true, ◌≡◌, refl, subst, sym}
use Rattle.barriers.specs.Needs.{Reaches}
use Rattle.leaf_reading.specs.Fronts.{folding}
use Rattle.leaf_reading.proofs.Fronts.{front_full, front_kept}
use Rattle.leaf_reading.proofs.keeper.KeeperAccSink.take_lent.Goals as goal

pub returns-then-is_enough-clause-taken : goal.returns-then-is_enough-clause-taken
returns-then-is_enough-clause-taken g c =
    let k = c.args.self.now in
    let f = folding (g.D.Demand.needed k.demand.now) (g.D.Demand.counted k.demand.now) g.T.Value.is_value (g.C.Collector.empty k.collector.now) (g.C.Collector.add k.collector.now) in
    let R : Option ℕ → Type 0 = λ need. Reaches need k.portion.count in
    (refl, refl, refl, front_full f (g.C.Collector.content k.collector.now) k.portion (subst R c.requires.1.same (c.is_enough.ensures.reached.0 c.if-is_enough.true)) _)

pub returns-clause-taken : goal.returns-clause-taken
returns-clause-taken g c =
    let k = c.args.self.now in
    let needs = c.requires.1 in
    let f = folding (g.D.Demand.needed k.demand.now) (g.D.Demand.counted k.demand.now) g.T.Value.is_value (g.C.Collector.empty k.collector.now) (g.C.Collector.add k.collector.now) in
    let R : Option ℕ → Type 0 = λ need. Reaches need k.portion.count in
    let under : R f.needed → ⊥ = λ reached. let t : c.is_enough.result ≡ true = c.is_enough.ensures.reached.1 (subst R (sym needs.same) reached) in let e = c.if-is_enough.false in cc in (
      refl,
      refl,
      refl,
      front_kept f (g.C.Collector.content k.collector.now) g.T.Value.content k.portion c.keep_lent.new.portion c.args.items.now c.split_at.result.0.now
          c.front_of-taken.result.0 c.front_of-taken.result.1 _ needs.same under (sym c.split_at.ensures.front) c.keep_lent.ensures.values
          c.keep_lent.ensures.count c.front_of-taken.ensures.counting c.in_ok-keep_lent.ensures.content c.front_of-taken.ensures.stays c.front_of-taken.ensures.last c.front_of-taken.ensures.ends,
    )
