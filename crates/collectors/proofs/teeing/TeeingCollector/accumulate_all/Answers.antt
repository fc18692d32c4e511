use Rattle.std.proofs.Common.{map, ap₂, sym, ◌∙◌}
use Rattle.std.proofs.lemmas.Result.{on_ok_weaker}
use Rattle.collectors.specs.NestedLaws.{fold-both_from}
use Rattle.collectors.proofs.teeing.TeeingCollector.accumulate_all.Goals as goal

pub returns : goal.returns
returns g c =
    let a = c.args.self.now.first in
    let b = c.args.self.now.second in
    let before = c.args.acc.now in
    on_ok_weaker c.accumulate_all-2.result
    (λ e. ap₂ (λ x y. (x, y)) c.in_ok-accumulate_all.ensures e
    ∙ sym (fold-both_from (g.A.Collector.empty a) (g.A.Collector.add a) (g.B.Collector.empty b) (g.B.Collector.add b) (g.A.Collector.content a before.0) (g.B.Collector.content b before.1) (map g.A.Item.Value.content c.args.items.now)))
    c.accumulate_all-2.ensures
