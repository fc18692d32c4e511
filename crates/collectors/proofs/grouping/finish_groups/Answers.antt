use Rattle.std.proofs.Common.{◌≡◌, [], fold}
use Rattle.collectors.proofs.Finished.{finished_none, finished_more, finished_all}
use Rattle.collectors.proofs.grouping.finish_groups.Goals as goal

pub loop-group-init : goal.loop-group-init
loop-group-init g c =
    let d = c.args.downstream.now in
    finished_none g.D.Item.Value.is_value (fold (g.D.Collector.add d) (g.D.Collector.empty d)) (g.D.Collector.content d) (g.D.Collector.gives d) c.args.groups.entries
    c.into_iter-group-iterator.result c.args.results.entries c.into_iter-group-iterator.ensures.into_iter_gives.0 c.requires.none

pub loop-group-preserved : goal.loop-group-preserved
loop-group-preserved g c =
    let d = c.args.downstream.now in
    finished_more g.D.Item.Value.is_value (fold (g.D.Collector.add d) (g.D.Collector.empty d)) (g.D.Collector.content d) (g.D.Collector.gives d)
    g.K.PartialEq.eq g.met.K.Eq.laws c.args.groups.entries c.into_iter-group-iterator.ensures.into_iter_gives.4 c.loop-group.group-iterator c.next.new.self
    c.loop-group.results.entries c.finish_group.new.results.entries c.in-Some.group c.loop-group.invariant c.in-Some.ensures.steps c.in_ok-finish_group.ensures

pub returns : goal.returns
returns g c =
    let d = c.args.downstream.now in
    let ended : c.loop-group.group-iterator ≡ [] = c.in-None.ensures.steps.0 in
    finished_all g.D.Item.Value.is_value (fold (g.D.Collector.add d) (g.D.Collector.empty d)) (g.D.Collector.content d) (g.D.Collector.gives d) c.args.groups.entries c.loop-group.group-iterator
    c.loop-group.results.entries ended c.loop-group.invariant
