use Rattle.std.proofs.Common.{◌≡◌, [], List, OnOk, Some, arith, flat_map, slice_get, slice_index_or, subst, sym, ap, ◌∙◌}
use Rattle.chained_streams.specs.Chains.{lists_of}
use Rattle.parallel_streams.specs.Cuts.{cut_at}
use Rattle.parallel_streams.specs.Ends.{ends_of}
use Rattle.chained_streams.specs.ChainLaws.{first-some, list-at}
use Rattle.chained_streams.proofs.LinkRuns.{through-fused}
use Rattle.chained_streams.proofs.chain.ChainPlumbing.feed_last_leaf.Goals as goal

pub returns-in-Some : goal.returns-in-Some
returns-in-Some g c =
    let p = c.args.progress.now in
    let through = flat_map (g.G.Stage.expand c.args.stage.now) in
    let part = c.part-items.result.now in
    let Q : List g.row.U-Item.Denot → Type 0 = λ l. slice_get (cut_at 0 (ends_of c.in-Some.listed.places) l) c.args.leaf ≡ Some part in
    let found = subst Q c.deref.ensures.value c.part-items.ensures in
    let here = list-at (λ link. g.A.Stage.expand link.stage) g.U.Item.Value.content c.args.self.now.links.items p.run (g.U.Plumbing.parts c.args.self.now.upstream p.before) p.listed c.in-Some.listed c.args.leaf c.in-Some.is through part found ∙ ap through (sym c.new.ensures) in
    let P : List _ → Type 0 = λ l. OnOk c.feed_whole.result (g.K.Sink.takes c.args.sink.now l c.feed_whole.new.sink) in
    subst P (sym here) c.feed_whole.ensures.fed

pub returns-in-None-2 : goal.returns-in-None-2
returns-in-None-2 g c =
    let p = c.args.progress.now in
    let link = c.index.result.now in
    let links = c.args.self.now.links.items in
    let parts = g.U.Plumbing.parts c.args.self.now.upstream p.before in
    let P : List (List _) → Type 0 = λ lists. OnOk c.feed_last_leaf-in-None-2.result (g.K.Sink.takes c.args.sink.now (slice_index_or lists c.args.leaf []) c.feed_last_leaf-in-None-2.new.sink) in
    let here = ap (lists_of (λ link. g.A.Stage.expand link.stage) g.U.Item.Value.content links p.run parts) c.in-None-2.is
    ∙ first-some (λ link. g.A.Stage.expand link.stage) parts links p.run link (omega (arith, c.if-progress-eq0.false)) c.requires.holds.1.1 c.index.ensures in
    through-fused g.A.Stage.expand g.G.Stage.expand P _ _ _ _ parts _ (ap (λ r. r.now) c.new-fused.ensures.first) (ap (λ r. r.now) c.new-fused.ensures.second) here c.feed_last_leaf-in-None-2.ensures
