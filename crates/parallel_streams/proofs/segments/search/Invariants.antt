use Rattle.std.proofs.Common.{◌≡◌, ◌++◌, ℕ, List, true, false}
use Rattle.collectors.specs.Laws.{IsContainerOf}
use Rattle.parallel_streams.specs.Reading.{ReadsLittle}
use Rattle.parallel_streams.specs.Searches.{DecidesOrHits, IsFound}
use Rattle.parallel_streams.specs.Terminals.{any_meets}
use Rattle.parallel_streams.proofs.segments.search.Given as goal

-- what the search found in the segments so far, which stand before what is behind; and little was read
abbrev pub invariant-loop-is_hit : goal.invariant-loop-is_hit
invariant-loop-is_hit g l =
    let X = g.X.Plumbing in
    let counted = g.D.Demand.counted l.demand in
    let made : List g.row.X-Item-Content.Denot → g.row.C-Acc.Denot → Type 0 = IsContainerOf g.X.Item.Value.is_value (g.C.Collector.content l.collector) (g.C.Collector.empty l.collector) (g.C.Collector.add l.collector) in
    record {
      holds : X.holds l.stream l.progress;
      found : (done : List g.row.X-Item-Content.Denot) × (X.value l.stream ≡ done ++ X.behind l.stream l.progress) × IsFound counted made done l.whole l.is_hit;
      read : (n : ℕ) × X.read l.stream l.progress n × (l.is_hit ≡ false → any_meets counted (X.front l.stream n) ≡ false)
          × (X.fine l.stream → X.barred l.stream ≡ true → ReadsLittle (DecidesOrHits (X.decided l.stream) counted (X.front l.stream)) n);
    }

abbrev pub decreases-loop-is_hit : goal.decreases-loop-is_hit
decreases-loop-is_hit g l = g.X.Plumbing.still l.stream l.progress
