use Rattle.std.proofs.Common.{◌≡◌, map, take, fold}
use Rattle.pipeline_meaning.specs.Adapting.{adapted_add}
use Rattle.pipeline_meaning.proofs.adapted.AdaptedCollector.accumulate_all.Given as goal

abbrev pub invariant-loop-item : goal.invariant-loop-item
invariant-loop-item g l =
    let d = l.self.downstream in
    let add = adapted_add g.F.Mapping.image g.P.Test.holds (g.D.Collector.empty d) (g.D.Collector.add d) l.self.step in
    g.D.Collector.content d l.acc ≡ fold add (g.D.Collector.content d l.fn.acc) (map g.D.Item.Value.content (take l.item-index l.items))
