use Rattle.std.proofs.Common.{◌≡◌, ◌<◌, ℕ, List, Some, map, flat_map, slice_get, subst, sym, ap, ◌∙◌, IfOk, arith}
use Rattle.std.proofs.lemmas.List.{length-map}
use Rattle.leaf_reading.specs.Fronts.{folding}
use Rattle.stealing_pool.specs.Jobs.{EndsLeaf}
use Rattle.stealing_pool.specs.Spans.{work_of}
use Rattle.stealing_pool.specs.SpanLaws.{leaf-ends-ok}
use Rattle.parallel_streams.specs.Cuts.{cut_at}
use Rattle.parallel_streams.specs.Ends.{ends_of}
use Rattle.chained_streams.specs.Chains.{lists_of}
use Rattle.chained_streams.specs.ChainLaws.{count-lists, first-some, list-at, within-list}
use Rattle.chained_streams.specs.declared.chain.Link.{Link}
use Rattle.chained_streams.proofs.LinkRuns.{through-fused}
use Rattle.chained_streams.proofs.chain.ChainPlumbing.run_last_leaf.Goals as goal

pub part-items-requires-clause-within : goal.part-items-requires-clause-within
part-items-requires-clause-within g c =
    let s = c.args.self.now in
    let U = g.U.Plumbing in
    let p = c.args.progress.now in
    let images = λ (link : Link g.row.A.Denot g.row.B.Denot). g.A.Stage.expand link.stage in
    let content = g.U.Item.Value.content in
    let links = s.links.items in
    let parts = U.parts s.upstream p.before in
    let W : ℕ → Type 0 = λ n. c.args.leaf < n in
    let counted = count-lists images content links p.run (U.done s.upstream p.before) parts (U.leaves_next s.upstream p.before) p.listed c.requires.done (g.met.U.Plumbing.parts_count s.upstream p.before) in
    within-list images content links p.run parts p.listed c.in-Some.listed c.args.leaf c.in-Some.is (subst W (sym counted) c.requires.within)

pub returns-in-Some-clause-end : goal.returns-in-Some-clause-end
returns-in-Some-clause-end g c =
    let s = c.args.self.now in
    let U = g.U.Plumbing in
    let p = c.args.progress.now in
    let C = g.C.Collector in
    let reading = c.args.reading.now in
    let images = λ (link : Link g.row.A.Denot g.row.B.Denot). g.A.Stage.expand link.stage in
    let content = g.U.Item.Value.content in
    let links = s.links.items in
    let parts = U.parts s.upstream p.before in
    let lists = lists_of images content links p.run parts p.listed in
    let f = folding (g.D.Demand.needed reading.demand.now) (g.D.Demand.counted reading.demand.now) g.G.Out.Value.is_value (C.empty reading.collector.now) (C.add reading.collector.now) in
    let through = flat_map (g.G.Stage.expand reading.stage.now) in
    let part = c.part-items.result.now in
    let Q : List g.row.U-Item.Denot → Type 0 = λ l. slice_get (cut_at 0 (ends_of c.in-Some.listed.places) l) c.args.leaf ≡ Some part in
    let found = subst Q c.deref.ensures.value c.part-items.ensures in
    let here = list-at images content links p.run parts p.listed c.in-Some.listed c.args.leaf c.in-Some.is through part found ∙ ap through (sym c.new.ensures) in
    let W : ℕ → Type 0 = λ n. c.args.leaf < n in
    let counted = count-lists images content links p.run (U.done s.upstream p.before) parts (U.leaves_next s.upstream p.before) p.listed c.requires.done (g.met.U.Plumbing.parts_count s.upstream p.before) in
    let within = subst W (sym (length-map lists through ∙ counted)) c.requires.within in
    leaf-ends-ok f (C.content reading.collector.now) (map through lists) c.args.leaf (g.L.Handout.cut c.read_leaf.new.seat) (through (map content c.new.result.items.now)) within here c.read_leaf.result c.read_leaf.ensures.end

pub returns-in-None-2-clause-end : goal.returns-in-None-2-clause-end
returns-in-None-2-clause-end g c =
    let s = c.args.self.now in
    let p = c.args.progress.now in
    let C = g.C.Collector in
    let reading = c.args.reading.now in
    let images = λ (link : Link g.row.A.Denot g.row.B.Denot). g.A.Stage.expand link.stage in
    let link = c.index.result.now in
    let links = s.links.items in
    let parts = g.U.Plumbing.parts s.upstream p.before in
    let f = folding (g.D.Demand.needed reading.demand.now) (g.D.Demand.counted reading.demand.now) g.G.Out.Value.is_value (C.empty reading.collector.now) (C.add reading.collector.now) in
    let ran = c.run_last_leaf-in-None-2 in
    let P : List (List _) → Type 0 = λ lists. IfOk ran.result (EndsLeaf (work_of f (C.content reading.collector.now) lists) (g.L.Handout.cut ran.new.seat) c.args.leaf) in
    let here = ap (lists_of images g.U.Item.Value.content links p.run parts) c.in-None-2.is
    ∙ first-some images parts links p.run link (omega (arith, c.if-progress-eq0.false)) c.requires.holds.1.1 c.index.ensures in
    through-fused g.A.Stage.expand g.G.Stage.expand P _ _ _ _ parts _ (ap (λ r. r.now) c.new-fused.ensures.first) (ap (λ r. r.now) c.new-fused.ensures.second) here ran.ensures.end
