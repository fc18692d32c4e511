use Rattle.std.proofs.lemmas.Result.{on_ok_weaker}
use Rattle.collectors.proofs.CountedParts.{counted}
use Rattle.collectors.proofs.partitioning.PartitioningByCollector.accumulate_all.Goals as goal

pub returns-then-counts_alone : goal.returns-then-counts_alone
returns-then-counts_alone g c =
    let d = c.args.self.now.downstream in
    let side = g.D.Collector.content d in
    let parts = counted g.D.Item.Value.content (g.P.Test.holds c.args.self.now.test) (g.D.Collector.empty d) (g.D.Collector.add d) (c.counts_alone.ensures c.if-counts_alone.true)
    c.args.items.now c.count_meeting-meeting.result c.count_meeting-meeting.ensures (side c.args.acc.now.no) (side c.args.acc.now.yes) in
    on_ok_weaker c.accumulate_all-then-counts_alone.result
    (λ failing. parts (side c.accumulate_all-then-counts_alone.new.acc) (side c.accumulate_all.new.acc) failing c.in_ok-accumulate_all.ensures)
    c.accumulate_all-then-counts_alone.ensures
