use Rattle.std.proofs.Common.{◌≡◌, ◌<◌, ◌∙◌, ℕ, List, Some, [], ap, arith, flat_map, IfOk, length, map, slice_get, subst, sym}
use Rattle.std.proofs.lemmas.List.{length-map}
use Rattle.collectors.specs.NestedLaws.{push}
use Rattle.leaf_reading.specs.Fronts.{folding}
use Rattle.stealing_pool.specs.Jobs.{EndsLeaf}
use Rattle.stealing_pool.specs.Spans.{work_of}
use Rattle.stealing_pool.specs.SpanLaws.{leaf-ends-ok}
use Rattle.parallel_streams.specs.Cuts.{cut_at}
use Rattle.parallel_streams.specs.Ends.{ends_of}
use Rattle.chained_streams.specs.Chains.{is_own_turn, lists_of}
use Rattle.chained_streams.specs.ChainLaws.{first-none, first-some, list-at, within-list}
use Rattle.chained_streams.specs.declared.chain.Link.{Link}
use Rattle.chained_streams.proofs.LinkRuns.{ends-link, get-none, get-some, nothing-kept, leaves-own, through-fused}
use Rattle.chained_streams.proofs.chain.ChainPlumbing.run_barrier_leaf.Goals as goal
use Rattle.chained_streams.proofs.chain.ChainPlumbing.run_barrier_leaf.Goals.{in-Some, in-None, in-None-2}

pub returns-then-run-len-clause-end : goal.returns-then-run-len-clause-end
returns-then-run-len-clause-end g c =
    let s = c.args.self.now in
    let U = g.U.Plumbing in
    let p = c.args.progress.now in
    let content = g.U.Item.Value.content in
    let turn = sym (c.own_turn.ensures ∙ ap (λ b. is_own_turn b p.listed) c.is_through.ensures) ∙ c.if-not-own_turn.false in
    nothing-kept {L = Link g.row.A.Denot g.row.B.Denot} {S = g.row.B-State.Denot} (λ link state. g.B.Barrier.needed_behind link.barrier state) (λ link. g.B.Demand.counted link.barrier) (λ link state. g.B.Barrier.value_behind link.barrier state) (λ link. g.A.Stage.expand link.stage)
    g.U.Item.Value.is_value content (lists_of (λ link. g.A.Stage.expand link.stage) content s.links.items p.run (U.parts s.upstream p.before) p.listed) (U.work s.upstream p.before) (is_own_turn (U.done s.upstream p.before) p.listed)
    (slice_get s.links.items p.run) (slice_get p.states.items p.run) (g.L.Handout.cut c.args.seat.now) c.args.leaf c.nothing_kept.result
    turn (get-none s.links.items p.run (omega (arith, c.if-run-len.true, c.len.ensures))) c.requires.within c.nothing_kept.ensures

pub part-items-requires-clause-within : goal.part-items-requires-clause-within
part-items-requires-clause-within g c =
    let s = c.args.self.now in
    let U = g.U.Plumbing in
    let p = c.args.progress.now in
    let content = g.U.Item.Value.content in
    let links = s.links.items in
    let parts = U.parts s.upstream p.before in
    let lists = lists_of (λ link. g.A.Stage.expand link.stage) content links p.run parts p.listed in
    let turn = sym (c.own_turn.ensures ∙ ap (λ b. is_own_turn b p.listed) c.is_through.ensures) ∙ c.if-not-own_turn.false in
    let inside =
    leaves-own {L = Link g.row.A.Denot g.row.B.Denot} {S = g.row.B-State.Denot} (λ link state. g.B.Barrier.needed_behind link.barrier state) (λ link. g.B.Demand.counted link.barrier) (λ link state. g.B.Barrier.value_behind link.barrier state) (λ link. g.A.Stage.expand link.stage)
    g.U.Item.Value.is_value content lists (U.work s.upstream p.before) (is_own_turn (U.done s.upstream p.before) p.listed) (slice_get links p.run) (slice_get p.states.items p.run) c.args.leaf turn c.requires.within in
    within-list (λ link. g.A.Stage.expand link.stage) content links p.run parts p.listed c.in-Some.listed c.args.leaf c.in-Some.is inside

pub returns-clause-end : goal.returns-clause-end
returns-clause-end g c =
    let s = c.args.self.now in
    let U = g.U.Plumbing in
    let p = c.args.progress.now in
    let content = g.U.Item.Value.content in
    let links = s.links.items in
    let states = p.states.items in
    let parts = U.parts s.upstream p.before in
    let link = c.index-link.result.now in
    let state = c.index-state.result.now in
    let images = λ (l : Link g.row.A.Denot g.row.B.Denot). g.A.Stage.expand l.stage in
    let through = flat_map (g.A.Stage.expand link.stage) in
    let lists = lists_of images content links p.run parts p.listed in
    let turn = sym (c.own_turn.ensures ∙ ap (λ b. is_own_turn b p.listed) c.is_through.ensures) ∙ c.if-not-own_turn.false in
    let in_links : p.run < length links = omega (arith, c.if-run-len.false, c.len.ensures) in
    let in_states : p.run < length states = omega (arith, in_links, c.requires.holds.1.0) in
    let inside =
    leaves-own {L = Link g.row.A.Denot g.row.B.Denot} {S = g.row.B-State.Denot} (λ link state. g.B.Barrier.needed_behind link.barrier state) (λ link. g.B.Demand.counted link.barrier) (λ link state. g.B.Barrier.value_behind link.barrier state) (λ link. g.A.Stage.expand link.stage)
    g.U.Item.Value.is_value content lists (U.work s.upstream p.before) (is_own_turn (U.done s.upstream p.before) p.listed) (slice_get links p.run) (slice_get states p.run) c.args.leaf turn c.requires.within in
    let f = folding (g.B.Barrier.needed_behind link.barrier state) (g.B.Demand.counted link.barrier) g.U.Item.Value.is_value [] push in
    let Ends : List (List g.row.U-Item-Content.Denot) → _ → ℕ → Type 0 = λ l end cut. IfOk end (EndsLeaf (work_of f (map content) l) cut c.args.leaf) in
    let cut = g.L.Handout.cut in
    let read : Ends (map through lists) c.match-progress.end (cut c.match-progress.seat) =
    elim c.match-progress.branch [
      | in-Some w ↦
          let part = w.part-items.result.now in
          let Q : List g.row.U-Item.Denot → Type 0 = λ l. slice_get (cut_at 0 (ends_of w.in-Some.listed.places) l) c.args.leaf ≡ Some part in
          let found = subst Q w.deref.ensures.value w.part-items.ensures in
          let here = list-at images content links p.run parts p.listed w.in-Some.listed c.args.leaf w.in-Some.is through part found ∙ ap through (sym w.new-in-Some.ensures) in
          let W : ℕ → Type 0 = λ n. c.args.leaf < n in
          let within = subst W (sym (length-map lists through)) inside in
          let ends = leaf-ends-ok f (map content) (map through lists) c.args.leaf (cut w.read_leaf-end.new.seat) (through (map content w.new-in-Some.result.items.now)) within here w.read_leaf-end.result w.read_leaf-end.ensures.end in
          subst (λ seat. Ends (map through lists) c.match-progress.end (cut seat)) (sym w.seat-is) (subst (λ end. Ends (map through lists) end (cut w.read_leaf-end.new.seat)) (sym w.end-is) ends)
      | in-None w ↦
          let here = ap (lists_of images content links p.run parts) w.in-None.is ∙ first-none images parts links p.run (omega (arith, w.if-run-eq0.true)) in
          let ends = subst (λ l. Ends (map through l) w.run_last_leaf-end.result (cut w.run_last_leaf-end.new.seat)) (sym here) w.run_last_leaf-end.ensures.end in
          subst (λ seat. Ends (map through lists) c.match-progress.end (cut seat)) (sym w.seat-is) (subst (λ end. Ends (map through lists) end (cut w.run_last_leaf-end.new.seat)) (sym w.end-is) ends)
      | in-None-2 w ↦
          let first = w.index.result.now in
          let r = w.run_last_leaf-end-in-None-2 in
          let P : List (List g.row.U-Item-Content.Denot) → Type 0 = λ l. Ends l r.result (cut r.new.seat) in
          let later : 0 < p.run = omega (arith, w.if-run-eq0.false) in
          let here = ap (lists_of images content links p.run parts) w.in-None-2.is ∙ first-some images parts links p.run first later c.requires.holds.1.1 w.index.ensures in
          let ends = through-fused g.A.Stage.expand g.A.Stage.expand P _ _ _ _ parts lists (ap (λ r. r.now) w.new-fused.ensures.first) (ap (λ r. r.now) w.new-fused.ensures.second) here r.ensures.end in
          subst (λ seat. Ends (map through lists) c.match-progress.end (cut seat)) (sym w.seat-is) (subst (λ end. Ends (map through lists) end (cut r.new.seat)) (sym w.end-is) ends)
    ] in
    ends-link {L = Link g.row.A.Denot g.row.B.Denot} {S = g.row.B-State.Denot} (λ link state. g.B.Barrier.needed_behind link.barrier state) (λ link. g.B.Demand.counted link.barrier) (λ link state. g.B.Barrier.value_behind link.barrier state) (λ link. g.A.Stage.expand link.stage)
    g.U.Item.Value.is_value content lists (U.work s.upstream p.before) (is_own_turn (U.done s.upstream p.before) p.listed) (slice_get links p.run) (slice_get states p.run) link state
    (g.L.Handout.cut c.match-progress.seat) c.args.leaf c.match-progress.end c.end_own.result turn
    (get-some links p.run link in_links c.index-link.ensures) (get-some states p.run state in_states c.index-state.ensures) c.end_own.ensures read
