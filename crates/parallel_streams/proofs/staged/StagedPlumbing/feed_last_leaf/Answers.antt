use Rattle.std.proofs.Common.{List, [], OnOk, map, flat_map, subst, ap}
use Rattle.std.specs.List.{slice_index_or}
use Rattle.parallel_streams.specs.LeafLaws.{map-fused}
use Rattle.parallel_streams.proofs.staged.StagedPlumbing.feed_last_leaf.Goals as goal

pub returns : goal.returns
returns g c =
    let s = c.args.self.now in
    let parts = g.U.Plumbing.parts s.upstream c.args.progress.now in
    let P : List (List _) → Type 0 = λ lists. OnOk c.feed_last_leaf.result (g.K.Sink.takes c.args.sink.now (slice_index_or lists c.args.leaf []) c.feed_last_leaf.new.sink) in
    let Q : g.row.A.Denot → Type 0 = λ a. P (map (flat_map (λ x. flat_map (g.G.Stage.expand c.new-fused.result.second.now) (g.A.Stage.expand a x))) parts) in
    let R : g.row.G.Denot → Type 0 = λ b. P (map (flat_map (λ x. flat_map (g.G.Stage.expand b) (g.A.Stage.expand s.stage x))) parts) in
    let first = subst Q (ap (λ r. r.now) c.new-fused.ensures.first) c.feed_last_leaf.ensures in
    let both = subst R (ap (λ r. r.now) c.new-fused.ensures.second) first in
    subst P (map-fused (g.A.Stage.expand s.stage) (g.G.Stage.expand c.args.stage.now) parts) both
