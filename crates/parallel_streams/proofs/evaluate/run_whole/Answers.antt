use Rattle.std.proofs.Common.{None, IfOk, map, subst, refl, ap, ◌∙◌}
use Rattle.barriers.specs.Needs.{no_item}
use Rattle.leaf_reading.specs.Fronts.{folding}
use Rattle.stealing_pool.specs.Spans.{joined}
use Rattle.parallel_streams.specs.Ends.{ends_of}
use Rattle.parallel_streams.specs.ProgressLaws.{joined-listed}
use Rattle.parallel_streams.specs.Reports.{IsRunOver}
use Rattle.parallel_streams.proofs.Idle.{idle-run-ok, listed-run-ok}
use Rattle.parallel_streams.proofs.evaluate.run_whole.Goals as goal

pub returns-in-Some-clause-run : goal.returns-in-Some-clause-run
returns-in-Some-clause-run g c =
    let taker = c.args.collector.now in
    let C = g.C.Collector in
    let content = g.X.Item.Value.content in
    let listed = c.in-Some.listed in
    let told = c.in-Some.ensures in
    let list = map content listed.items.items in
    let joins = ap joined told.parts ∙ joined-listed content listed (told.cut c.requires.holds) in
    idle-run-ok g.X.Item.Value.is_value (C.empty taker) (C.add taker) (C.content taker) (g.X.Plumbing.parts c.args.stream.now c.args.progress.now) list list (ends_of listed.places)
    c.hand_over.result joins refl told.parts c.hand_over.ensures.acc c.hand_over.ensures.entry

pub returns-in-None-clause-run : goal.returns-in-None-clause-run
returns-in-None-clause-run g c =
    let X = g.X.Plumbing in
    let C = g.C.Collector in
    let s = c.args.stream.now in
    let taker = c.args.collector.now in
    let told = listed-run-ok g.X.Item.Value.is_value (C.empty taker) (C.add taker) (C.content taker) (X.parts s c.take_listed.new.progress) c.list_over.result c.list_over.ensures.acc c.list_over.ensures.entry in
    let P : g.row.X-Progress.Denot → Type 0 = λ p. IfOk c.list_over.result (λ r. IsRunOver (folding None no_item g.X.Item.Value.is_value (C.empty taker) (C.add taker)) (C.content taker r.0) (X.parts s p) r.1) in
    subst P c.in-None.ensures.none told
