use Rattle.std.proofs.Common.{◌++◌, List, map, take, subst, arith}
use Rattle.collectors.specs.Laws.{IsContainerOf}
use Rattle.collectors.proofs.Folded.{appended-next}
use Rattle.collectors.proofs.container.accumulate_items.Goals as goal

pub loop-x-preserved : goal.loop-x-preserved
loop-x-preserved g c =
    let collector = c.args.collector.now in
    let content = g.C.Item.Value.content in
    let made = IsContainerOf g.C.Item.Value.is_value (g.C.Collector.content collector) (g.C.Collector.empty collector) (g.C.Collector.add collector) in
    let l = c.loop-x in
    let before : List g.row.C-Item-Content.Denot → List g.row.C-Item-Content.Denot = λ front. front ++ map content (take l.x-index c.args.items.now) in (
      omega (arith, c.loop-x-test.true),
      λ front begun.
          subst (λ m. made m c.accumulate_item.new.acc) (appended-next content front c.args.items.now l.x-index c.x-item.result c.loop-x-test.true c.x-item.is)
          (c.in_ok-accumulate_item.ensures (before front) (l.invariant.1 front begun)),
    )
