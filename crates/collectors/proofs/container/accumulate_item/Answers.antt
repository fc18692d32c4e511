use Rattle.std.proofs.lemmas.Result.{on_ok_weaker}
use Rattle.collectors.specs.Laws.{container-push}
use Rattle.collectors.proofs.container.accumulate_item.Goals as goal

pub returns : goal.returns
returns g c = λ l made.
    let collector = c.args.collector.now in
    on_ok_weaker c.accumulate.result
    (λ added. container-push g.C.Item.Value.is_value (g.C.Collector.content collector) (g.C.Collector.empty collector) (g.C.Collector.add collector)
    l (g.C.Item.Value.content c.args.x.now) c.args.acc.now c.accumulate.new.acc c.is_value-value.ensures.value added made)
    c.accumulate.ensures
