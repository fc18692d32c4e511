use Rattle.std.proofs.Common.{List, [], map, subst, sym, ◌∙◌}
use Rattle.std.specs.Prelude.{IfOk}
use Rattle.collectors.specs.NestedLaws.{push}
use Rattle.leaf_reading.specs.Fronts.{folding}
use Rattle.stealing_pool.specs.Spans.{work_of}
use Rattle.stealing_pool.specs.Jobs.{EndsLeaf}
use Rattle.parallel_streams.specs.LeafLaws.{map-alone}
use Rattle.parallel_streams.specs.ProgressLaws.{ends-own_ok}
use Rattle.parallel_streams.proofs.barred.BarredPlumbing.run_barrier_leaf.Goals as goal

pub returns-then-is_through-clause-end : goal.returns-then-is_through-clause-end
returns-then-is_through-clause-end g c =
    let s = c.args.self.now in
    let U = g.U.Plumbing in
    let p = c.args.progress.now.before in
    let f = folding (g.B.Barrier.needed_behind s.barrier c.args.progress.now.state) (g.B.Demand.counted s.barrier) g.U.Item.Value.is_value [] push in
    let content : List g.row.U-Item.Denot → List g.row.U-Item-Content.Denot = map g.U.Item.Value.content in
    let cut = g.L.Handout.cut c.run_last_leaf-end.new.seat in
    let Q : List (List _) → Type 0 = λ lists. IfOk c.run_last_leaf-end.result (EndsLeaf (work_of f content lists) cut c.args.leaf) in
    ends-own_ok (U.work s.upstream p) (g.B.Barrier.needed_behind s.barrier c.args.progress.now.state) (g.B.Demand.counted s.barrier) g.U.Item.Value.is_value g.U.Item.Value.content (g.B.Barrier.value_behind s.barrier c.args.progress.now.state) (U.parts s.upstream p)
    (U.done s.upstream p) cut c.args.leaf c.run_last_leaf-end.result c.end_own.result c.end_own.ensures
    (sym c.is_through.ensures ∙ c.if-is_through.true) (subst Q (map-alone (U.parts s.upstream p)) c.run_last_leaf-end.ensures.end)
