use Rattle.std.proofs.Common.{◌≡◌, ◌<◌, ◌∙◌, ◌∷◌, [], ℕ, ℤ, List, Some, ap, sym, subst, length, arith, get_or}
use Rattle.std.specs.Prelude.{IfOk, flat_map, map, slice_get}
use Rattle.std.proofs.lemmas.List.{length-map, get_or-map}
use Rattle.std.proofs.lemmas.Option.{get_or_from_slice_get}
use Rattle.spliterator.specs.Values.{IsI64}
use Rattle.stages.specs.Passing.{flat_map-one}
use Rattle.sources.specs.Integers.{integers}
use Rattle.sources.specs.declared.range.RangeSplit.{RangeSplit}
use Rattle.split_tree.specs.Plan.{leaves_of}
use Rattle.leaf_reading.specs.Fronts.{folding, EndsList}
use Rattle.pool_tests.proofs.of_stealing_pool.streams.NumbersLastRun.run_last_leaf.Goals as goal

at_leaf : {S X : Type 0} (items : S → List X) (leaves : List S) (leaf : ℕ) (s : S) → leaf < length leaves → slice_get leaves leaf ≡ Some s → flat_map (λ x. x ∷ []) (items s) ≡ get_or (map items leaves) leaf []
at_leaf items leaves leaf s within is = flat_map-one (items s) ∙ sym (get_or-map items leaves leaf s [] within ∙ ap items (get_or_from_slice_get leaves leaf s s is))

pub returns-clause-end : goal.returns-clause-end
returns-clause-end g c =
    let a = c.args in
    let f = folding (g.D.Demand.needed a.demand.now) (g.D.Demand.counted a.demand.now) IsI64 (g.C.Collector.empty a.collector.now) (g.C.Collector.add a.collector.now) in
    let items : RangeSplit → List ℤ = λ s. integers s.next s.left in
    let leaves = leaves_of a.self.now.plan in
    let sizes = length-map leaves items in
    let within : a.leaf < length leaves = let w = c.requires.there in omega arith in
    let P : List ℤ → Type 0 = λ whole. IfOk c.read_leaf.result (EndsList f (g.C.Collector.content a.collector.now) whole (g.B.Handout.cut c.read_leaf.new.seat) a.leaf) in
    subst P (at_leaf items leaves a.leaf c.leaf-source.result within c.leaf-source.ensures) c.read_leaf.ensures.end
