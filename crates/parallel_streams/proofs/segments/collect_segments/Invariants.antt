use Rattle.std.proofs.Common.{◌≡◌, ◌++◌, ℕ, List}
use Rattle.collectors.specs.Laws.{IsContainerOf}
use Rattle.parallel_streams.specs.Reading.{ReadsLittle}
use Rattle.parallel_streams.proofs.segments.collect_segments.Given as goal

-- what was read is in the container, and stands before what is behind; and it is little
abbrev pub invariant-loop-extent : goal.invariant-loop-extent
invariant-loop-extent g l =
    let made : List g.row.X-Item-Content.Denot → g.row.C-Acc.Denot → Type 0 = IsContainerOf g.X.Item.Value.is_value (g.C.Collector.content l.collector) (g.C.Collector.empty l.collector) (g.C.Collector.add l.collector) in
    record {
      holds : g.X.Plumbing.holds l.stream l.progress;
      taken : (done : List g.row.X-Item-Content.Denot) × (g.X.Plumbing.value l.stream ≡ done ++ g.X.Plumbing.behind l.stream l.progress) × made done l.whole;
      read : (n : ℕ) × g.X.Plumbing.read l.stream l.progress n × (g.X.Plumbing.fine l.stream → ReadsLittle (g.X.Plumbing.decided l.stream) n);
    }

abbrev pub decreases-loop-extent : goal.decreases-loop-extent
decreases-loop-extent g l = g.X.Plumbing.still l.stream l.progress
