use Rattle.std.proofs.Common.{flat_map, map, slice_get}
use Rattle.parallel_streams.specs.ProgressLaws.{combines-joined}
use Rattle.chained_streams.specs.Chains.{behind_at, counted_at, images_at, is_own_turn, lists_of, needed_at}
use Rattle.chained_streams.proofs.chain.ChainPlumbing.combine.Goals as goal

pub returns-in_ok-join-in-Own-following-2 : goal.returns-in_ok-join-in-Own-following-2
returns-in_ok-join-in-Own-following-2 g c =
    let s = c.args.self.now in
    let U = g.U.Plumbing in
    let p = c.args.progress.now in
    let link = slice_get s.links.items p.run in
    let state = slice_get p.states.items p.run in
    let needed = needed_at (λ link state. g.B.Barrier.needed_behind link.barrier state) link state in
    let counted = counted_at (λ link. g.B.Demand.counted link.barrier) link state in
    let images = images_at (λ link. g.A.Stage.expand link.stage) link state in
    let behind = behind_at (λ link state. g.B.Barrier.value_behind link.barrier state) link state in
    let content = g.U.Item.Value.content in
    let lists = map (flat_map images) (lists_of (λ link. g.A.Stage.expand link.stage) content s.links.items p.run (U.parts s.upstream p.before) p.listed) in
    combines-joined (U.work s.upstream p.before) needed counted g.U.Item.Value.is_value content behind lists (is_own_turn (U.done s.upstream p.before) p.listed)
    c.args.kept.now c.args.following c.in-Own.kept c.in-Own-following-2.following c.join.new.self c.in-Own.is c.in-Own-following-2.is c.in_ok-join-in-Own-following-2.ensures
