use Rattle.std.proofs.Common.{◌∙◌, ◌≡◌, Some, slice_get, sym, ap}
use Rattle.std.proofs.lemmas.Result.{on_ok_weaker}
use Rattle.std.specs.Map.{values_of}
use Rattle.std.specs.Option.{option_copied_mut}
use Rattle.collectors.specs.Grouping.{put, contents}
use Rattle.collectors.proofs.Entries.{put-set_value_at}
use Rattle.collectors.proofs.grouping.GroupingByCollector.accumulate_owned.Goals as goal

pub returns-in-Some : goal.returns-in-Some
returns-in-Some g c =
    let d = c.args.self.now.downstream in
    let x = g.D.Item.Value.content c.args.x in
    let keys = g.K.Out.Value.content in
    let kept = g.D.Collector.content d in
    let es = c.args.acc.now.entries.entries in
    let value : slice_get (values_of es) c.in-Some.at ≡ Some c.unwrap-kept.result.now = sym c.get_index_mut.ensures.value ∙ ap option_copied_mut c.unwrap-kept.ensures in
    on_ok_weaker c.accumulate_owned.result
    (λ added.
    put-set_value_at g.K.Out.PartialEq.eq g.K.Out.Value.same keys kept g.met.K.Out.EqualValue.eq_is_same c.in_ok-key.key c.unwrap-kept.result.now c.accumulate_owned.new.acc
    (g.D.Collector.add d (g.D.Collector.empty d) x) (λ a. g.D.Collector.add d a x) added es c.in-Some.at (sym c.in-Some.ensures) value
    ∙ ap (λ k. put g.K.Out.Value.same k (g.D.Collector.add d (g.D.Collector.empty d) x) (λ a. g.D.Collector.add d a x) (contents keys kept es)) c.in_ok-key.ensures)
    c.accumulate_owned.ensures

pub add_group-requires-clause-absent : goal.add_group-requires-clause-absent
add_group-requires-clause-absent g c = sym c.in_default.ensures

pub returns : goal.returns
returns g c =
    let d = c.args.self.now.downstream in
    let x = g.D.Item.Value.content c.args.x in
    let empty = g.D.Collector.empty d in
    on_ok_weaker c.add_group.result
    (λ added. added ∙ ap (λ k. put g.K.Out.Value.same k (g.D.Collector.add d empty x) (λ a. g.D.Collector.add d a x) (contents g.K.Out.Value.content (g.D.Collector.content d) c.args.acc.now.entries.entries)) c.in_ok-key.ensures)
    c.add_group.ensures
