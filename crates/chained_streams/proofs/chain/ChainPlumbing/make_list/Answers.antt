use Rattle.std.proofs.Common.{◌≡◌, ◌<◌, ◌++◌, ℕ, Bool, List, add-one, arith, drop, flat_map, length, map, rules, slice_get, slice_set, sym, subst, ap, ◌∙◌}
use Rattle.std.specs.Option.{is_some}
use Rattle.barriers.specs.Needs.{IsToldBy}
use Rattle.barriers.specs.Thinned.{thinned-behind, thinned-less}
use Rattle.stealing_pool.specs.Spans.{joined}
use Rattle.chained_streams.specs.Chains.{AreFresh, is_own_turn, left_by, link_behind, link_value, lists_of, through_links}
use Rattle.chained_streams.specs.ChainLaws.{chain-now, fresh-carried, left-carried, planned-now, value-carried}
use Rattle.chained_streams.specs.ChainReading.{LetsPass, LinksRun, StandsLink}
use Rattle.chained_streams.specs.ChainReadingLaws.{chain-run, link-carried, link-passed, run-carried}
use Rattle.chained_streams.specs.declared.chain.Link.{Link}
use Rattle.parallel_streams.proofs.Gathering.{goes-on}
use Rattle.parallel_streams.specs.ReadingLaws.{less-outcome}
use Rattle.chained_streams.proofs.LinkRuns.{carried-link, get-some, kept-link}
use Rattle.chained_streams.proofs.chain.ChainPlumbing.make_list.Goals as goal

pub list_kept-requires-clause-told : goal.list_kept-requires-clause-told
list_kept-requires-clause-told g c =
    let s = c.args.self.now in
    let U = g.U.Plumbing in
    let p = c.args.progress in
    let content = g.U.Item.Value.content in
    let links = s.links.items in
    let states = p.states.items in
    let link = c.index.result.now in
    let state = c.index_mut-state.result.now in
    let in_links : p.run < length links = omega (arith, c.if-run-len.false, c.len.ensures) in
    let in_states : p.run < length states = omega (arith, in_links, c.requires.holds.1.0) in
    let kept = kept-link {L = Link g.row.A.Denot g.row.B.Denot} {S = g.row.B-State.Denot} (λ link state. g.B.Barrier.needed_behind link.barrier state) (λ link. g.B.Demand.counted link.barrier) (λ link state. g.B.Barrier.value_behind link.barrier state) (λ link. g.A.Stage.expand link.stage)
    g.U.Item.Value.is_value content (lists_of (λ link. g.A.Stage.expand link.stage) content s.links.items p.run (U.parts s.upstream p.before) p.listed) (U.work s.upstream p.before) (is_own_turn (U.done s.upstream p.before) p.listed)
    (slice_get links p.run) (slice_get states p.run) link state c.args.part c.in-Own.pieces c.args.entry.now
    (get-some links p.run link in_links c.index.ensures) (get-some states p.run state in_states c.index_mut-state.ensures.value) c.in-Own.is c.requires.part c.requires.entry in
    let needed = g.B.Barrier.needed_behind link.barrier state in
    let counted = g.B.Demand.counted link.barrier in
    let Q : Bool → Type 0 = λ is_cut. IsToldBy needed counted (map content c.in-Own.pieces) is_cut in
    subst Q (sym (c.is_some-is_cut.ensures ∙ ap is_some c.cut.ensures)) kept.4

pub returns-in_ok-listed-in-Own : goal.returns-in_ok-listed-in-Own
returns-in_ok-listed-in-Own g c =
    let s = c.args.self.now in
    let U = g.U.Plumbing in
    let B = g.B.Barrier in
    let p = c.args.progress in
    let content = g.U.Item.Value.content in
    let links = s.links.items in
    let states = p.states.items in
    let link = c.index.result.now in
    let state = c.index_mut-state.result.now in
    let in_links : p.run < length links = omega (arith, c.if-run-len.false, c.len.ensures) in
    let in_states : p.run < length states = omega (arith, in_links, c.requires.holds.1.0) in
    let expand = g.A.Stage.expand in
    let images = λ (l : Link g.row.A.Denot g.row.B.Denot). expand l.stage in
    let parts = U.parts s.upstream p.before in
    let lists = lists_of images content links p.run parts p.listed in
    let kept = kept-link {L = Link g.row.A.Denot g.row.B.Denot} {S = g.row.B-State.Denot} (λ link state. B.needed_behind link.barrier state) (λ link. g.B.Demand.counted link.barrier) (λ link state. B.value_behind link.barrier state) images
    g.U.Item.Value.is_value content lists (U.work s.upstream p.before) (is_own_turn (U.done s.upstream p.before) p.listed)
    (slice_get links p.run) (slice_get states p.run) link state c.args.part c.in-Own.pieces c.args.entry.now
    (get-some links p.run link in_links c.index.ensures) (get-some states p.run state in_states c.index_mut-state.ensures.value) c.in-Own.is c.requires.part c.requires.entry in
    let new = c.list_kept.new.state in
    let old = B.value_behind link.barrier state in
    let items = map content c.in_ok-listed-in-Own.listed.items.items in
    let pieces = map content c.in-Own.pieces in
    let needed = B.needed_behind link.barrier state in
    let counted = g.B.Demand.counted link.barrier in
    let whole = joined lists in
    let carried : (more : List _) → old (kept.1 ++ more) ≡ items ++ B.value_behind link.barrier new more =
    λ more. thinned-behind old needed kept.1 pieces more kept.3 ∙ c.in_ok-listed-in-Own.ensures.goes_on more in
    let law = carried-link needed counted (expand link.stage) old (B.value_behind link.barrier new) (g.met.B.Barrier.enough_behind link.barrier state) whole kept.1 items kept.2 carried in
    let step = link_behind expand B.value_behind in
    let value = link_value expand B.value in
    let behind = U.behind s.upstream p.before in
    record {
      holds = search rules;
      left = λ waits.
          ap (λ n. left_by step n links (slice_set states p.run new) items behind) (add-one p.run)
          ∙ left-carried step p.run links states link state new whole items behind in_links in_states c.index.ensures c.index_mut-state.ensures.value law
          ∙ sym (chain-now step images content links states p.run p.listed (U.done s.upstream p.before) (U.left s.upstream p.before) behind parts c.requires.holds.1 kept.0 (g.met.U.Plumbing.parts_law s.upstream p.before c.requires.holds.0));
      still = search rules;
      reads = λ waits from to reads.
          let stands : Link g.row.A.Denot g.row.B.Denot → g.row.B-State.Denot → List g.row.U-Item-Content.Denot → Type 0 = StandsLink expand g.B.Demand.needed g.B.Demand.counted B.value B.needed_behind B.value_behind in
          let before = U.front s.upstream from in
          let now = U.front s.upstream to in
          let ran = chain-run (U.reads s.upstream p.before from to) (U.read s.upstream p.before to) stands (LetsPass B.needed_behind B.value_behind) step images value content
          links states p.run (U.done s.upstream p.before) p.listed before now parts
          (λ l at b n lets stood is. link-passed expand g.B.Demand.needed g.B.Demand.counted B.value B.needed_behind B.value_behind l at parts b n lets stood is)
          c.requires.holds.1 kept.0 reads (g.met.U.Plumbing.read_law s.upstream p.before from to c.requires.holds.0) in
          let through = flat_map (expand link.stage) whole in
          let less = c.in_ok-listed-in-Own.ensures.lessened ∙ thinned-less old needed counted kept.1 pieces kept.3 ∙ less-outcome needed counted through kept.1 kept.2 in
          let on = goes-on needed counted old (B.value_behind link.barrier new) (g.met.B.Barrier.enough_behind link.barrier state) through kept.1 items kept.2 carried in
          let F : ℕ → Type 0 = λ n. LinksRun stands value n links (slice_set states p.run new) before now items in (
            ran.0,
            subst F (sym (add-one p.run)) (run-carried stands value p.run links states link state new whole items before now in_links in_states c.index.ensures c.index_mut-state.ensures.value
                (λ b n stood is. link-carried expand g.B.Demand.needed g.B.Demand.counted B.value B.needed_behind B.value_behind link state new whole items b n less on (g.met.B.Barrier.of_nothing link.barrier new) stood is)
                ran.1),
          );
      planned = λ waits planned.
          let all = U.value s.upstream in
          let now = planned-now step images value content links states p.run p.listed (U.done s.upstream p.before) all parts c.requires.holds.1.2 planned.1 kept.0
          (g.met.U.Plumbing.whole_law s.upstream c.args.engine.now.run.workers c.args.engine.now.run.target p.before c.requires.holds.0 planned.0) in
          let fresh = fresh-carried step value p.run links states new in_links in_states now.0 in
          let same = value-carried step value (λ l state. g.met.B.Barrier.of_nothing l.barrier state) p.run links states link state new whole items in_links in_states now.0 c.index.ensures c.index_mut-state.ensures.value law ∙ now.1 in
          let F : ℕ → Type 0 = λ n. AreFresh step value (drop n links) (drop n (slice_set states p.run new)) × (through_links value (drop n links) items ≡ through_links value links all) in
          (planned.0, subst F (sym (add-one p.run)) (fresh, same));
      entries = search rules;
      fewer = search rules;
    }
