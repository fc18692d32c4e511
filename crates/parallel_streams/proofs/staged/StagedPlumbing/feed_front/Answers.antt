use Rattle.std.proofs.Common.{List, Option, Some, None, IfOk, IfSome, IfNone, flat_map, subst, sym, ap}
use Rattle.std.proofs.lemmas.Result.{IfOk-weaker}
use Rattle.parallel_streams.specs.LeafLaws.{flat_map-fused, some-weaker}
use Rattle.parallel_streams.proofs.staged.StagedPlumbing.feed_front.Goals as goal

pub returns-clause-all : goal.returns-clause-all
returns-clause-all g c =
    let s = c.args.self.now in
    let items = g.U.Plumbing.value s.upstream in
    let P : List _ → Type 0 = λ l. IfOk c.feed_front.result (λ rest. IfNone rest (g.K.Sink.takes c.args.sink.now l c.feed_front.new._sink)) in
    let Q : g.row.A.Denot → Type 0 = λ a. P (flat_map (λ x. flat_map (g.G.Stage.expand c.new-fused.result.second.now) (g.A.Stage.expand a x)) items) in
    let R : g.row.G.Denot → Type 0 = λ b. P (flat_map (λ x. flat_map (g.G.Stage.expand b) (g.A.Stage.expand s.stage x)) items) in
    let first = subst Q (ap (λ r. r.now) c.new-fused.ensures.first) c.feed_front.ensures.all in
    let both = subst R (ap (λ r. r.now) c.new-fused.ensures.second) first in
    subst P (flat_map-fused (g.A.Stage.expand s.stage) (g.G.Stage.expand c.args.stage.now) items) both

pub returns-clause-front : goal.returns-clause-front
returns-clause-front g c =
    let s = c.args.self.now in
    let U = g.U.Plumbing in
    let f = g.A.Stage.expand s.stage in
    let h = g.G.Stage.expand c.args.stage.now in
    let before : List _ → g.row.K.Denot → Type 0 = g.K.Sink.takes c.args.sink.now in
    let after : List _ → g.row.K.Denot → Type 0 = g.K.Sink.takes c.feed_front.new._sink in
    let P : (List g.row.U-Item-Content.Denot → List _) → g.row.U-Progress.Denot → Type 0 = λ images p. (end : g.row.K.Denot) → after (images (U.left s.upstream p)) end → before (images (U.value s.upstream)) end in
    let T : (List g.row.U-Item-Content.Denot → List _) → Type 0 = λ images. IfOk c.feed_front.result (λ rest. IfSome rest (P images)) in
    let Q : g.row.A.Denot → Type 0 = λ a. T (flat_map (λ x. flat_map (g.G.Stage.expand c.new-fused.result.second.now) (g.A.Stage.expand a x))) in
    let R : g.row.G.Denot → Type 0 = λ b. T (flat_map (λ x. flat_map (g.G.Stage.expand b) (f x))) in
    let first = subst Q (ap (λ r. r.now) c.new-fused.ensures.first) c.feed_front.ensures.front in
    let both = subst R (ap (λ r. r.now) c.new-fused.ensures.second) first in
    let fused : List g.row.U-Item-Content.Denot → List _ = flat_map (λ x. flat_map h (f x)) in
    let apart : List g.row.U-Item-Content.Denot → List _ = λ l. flat_map h (flat_map f l) in
    IfOk-weaker c.feed_front.result (λ rest. IfSome rest (P fused)) (λ rest. IfSome rest (P apart))
    (λ rest. some-weaker rest (P fused) (P apart) (λ p on end took.
    subst (λ l. before l end) (flat_map-fused f h (U.value s.upstream))
    (on end (subst (λ l. after l end) (sym (flat_map-fused f h (U.left s.upstream p))) took))))
    both
