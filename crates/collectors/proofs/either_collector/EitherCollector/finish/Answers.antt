use Rattle.collectors.proofs.EitherFinish.{on-left, on-right}
use Rattle.collectors.proofs.either_collector.EitherCollector.finish.Goals as goal

pub returns-in_ok-finish_or_new-in-Left : goal.returns-in_ok-finish_or_new-in-Left
returns-in_ok-finish_or_new-in-Left g c =
    on-left g.A.Item.Value.is_value g.A.Collector.content g.B.Collector.content g.A.Collector.empty g.B.Collector.empty g.A.Collector.add g.B.Collector.add g.A.Collector.gives g.B.Collector.gives
    c.args.self.now c.args.acc c.in-Left.side c.left.result c.in_ok-finish_or_new-in-Left.field-0 c.in-Left.is c.left.ensures c.in_ok-finish_or_new-in-Left.ensures

pub returns-in_ok-finish_or_new-in-Right : goal.returns-in_ok-finish_or_new-in-Right
returns-in_ok-finish_or_new-in-Right g c =
    on-right g.A.Item.Value.is_value g.A.Collector.content g.B.Collector.content g.A.Collector.empty g.B.Collector.empty g.A.Collector.add g.B.Collector.add g.A.Collector.gives g.B.Collector.gives
    c.args.self.now c.args.acc c.in-Right.side c.right.result c.in_ok-finish_or_new-in-Right.field-0 c.in-Right.is c.right.ensures c.in_ok-finish_or_new-in-Right.ensures
