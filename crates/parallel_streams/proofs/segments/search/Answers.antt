use Rattle.std.proofs.Common.{Bool, true, false, ◌∙◌, ◌++◌, sym, ap, subst}
use Rattle.collectors.specs.Laws.{IsContainerOf}
use Rattle.stealing_pool.specs.Spans.{joined}
use Rattle.parallel_streams.specs.ReadingLaws.{reads-on}
use Rattle.parallel_streams.specs.Searches.{DecidesOrHits, IsFound}
use Rattle.parallel_streams.proofs.Searching.{no-end, found-more, found-whole, found-all, missed-more, nothing-met, few-begun}
use Rattle.parallel_streams.proofs.SegmentLaws.{read-segment}
use Rattle.parallel_streams.proofs.segments.search.Goals as goal

pub loop-is_hit-init : goal.loop-is_hit-init
loop-is_hit-init g c =
    let X = g.X.Plumbing in
    let C = g.C.Collector in
    let it = c.args.collector.now in
    let s = c.args.stream.now in
    let counted = g.D.Demand.counted c.args.demand.now in
    let made = IsContainerOf g.X.Item.Value.is_value (C.content it) (C.empty it) (C.add it) in
    let begun = c.in_ok-begun.ensures.reads in
    let first = c.in_ok-progress.ensures in
    let read = first.read 0 begun.0 begun.1 in
    record {
      holds = first.holds;
      found = (joined (X.parts s c.in_ok-progress.progress), sym c.in_ok-begun.ensures.left ∙ first.left, first.found);
      read = (
        begun.0,
        read.0,
        missed-more counted made (X.front s 0) (joined (X.parts s c.in_ok-progress.progress)) (X.front s begun.0) c.in_ok-progress.whole c.in_ok-progress.is_hit read.1 (nothing-met counted (X.front s 0) c.in_ok-begun.ensures.nothing) first.found,
        λ fine barred. few-begun (DecidesOrHits (X.decided s) counted (X.front s)) begun.0 c.first-extent.result.most (c.first-extent.ensures.bounded barred) (begun.2 fine),
      );
    }

pub loop-is_hit-preserved : goal.loop-is_hit-preserved
loop-is_hit-preserved g c =
    let X = g.X.Plumbing in
    let C = g.C.Collector in
    let it = c.args.collector.now in
    let s = c.args.stream.now in
    let counted = g.D.Demand.counted c.args.demand.now in
    let made = IsContainerOf g.X.Item.Value.is_value (C.content it) (C.empty it) (C.add it) in
    let so_far = c.loop-is_hit.invariant.found in
    let P : Bool → Type 0 = λ b. IsFound counted made so_far.0 c.loop-is_hit.whole b in
    let before = subst P c.loop-is_hit-test.true so_far.2 in
    let next = c.in_ok-after.ensures in
    let items = joined (X.parts s c.in_ok-after.after) in
    let at = c.loop-is_hit.invariant.read in
    let missed = at.2 c.loop-is_hit-test.true in
    let reads = c.in_ok-next.ensures.reads at.0 at.1 in
    let read = next.read at.0 reads.0 reads.1 in
    let undecided = c.is_last.ensures.undecided c.if-is_last.false at.0 at.1 in
    record {
      holds = next.holds;
      found = (
        so_far.0 ++ items,
        read-segment (X.value s) so_far.0 (X.behind s c.loop-is_hit.progress) items (X.behind s c.in_ok-after.after) so_far.1 (sym c.in_ok-next.ensures.left ∙ next.left),
        found-more counted made so_far.0 items c.in_ok-after.acc c.combine_containers.new.left c.in_ok-after.met before.1 next.found (λ l is. c.in_ok-combine_containers.ensures so_far.0 l before.0 is),
      );
      read = (
        reads.0,
        read.0,
        missed-more counted made (X.front s at.0) items (X.front s reads.0) c.in_ok-after.acc c.in_ok-after.met read.1 missed next.found,
        λ fine barred. reads-on (DecidesOrHits (X.decided s) counted (X.front s)) at.0 reads.0 (no-end (X.decided s) counted (X.front s) at.0 undecided missed) (reads.2 fine),
      );
    }

pub returns-then-is_last-clause-found : goal.returns-then-is_last-clause-found
returns-then-is_last-clause-found g c =
    let X = g.X.Plumbing in
    let C = g.C.Collector in
    let it = c.args.collector.now in
    let s = c.args.stream.now in
    let counted = g.D.Demand.counted c.args.demand.now in
    let made = IsContainerOf g.X.Item.Value.is_value (C.content it) (C.empty it) (C.add it) in
    let so_far = c.loop-is_hit.invariant.found in
    let P : Bool → Type 0 = λ b. IsFound counted made so_far.0 c.loop-is_hit.whole b in
    found-all counted made (X.value s) so_far.0 (X.behind s c.loop-is_hit.progress) c.loop-is_hit.whole so_far.1 (c.is_last.ensures.last c.if-is_last.true) (subst P c.loop-is_hit-test.true so_far.2)

pub returns-then-is_last-clause-read : goal.returns-then-is_last-clause-read
returns-then-is_last-clause-read g c =
    let at = c.loop-is_hit.invariant.read in
    (at.0, at.1, at.3)

pub returns-clause-found : goal.returns-clause-found
returns-clause-found g c =
    let X = g.X.Plumbing in
    let C = g.C.Collector in
    let it = c.args.collector.now in
    let s = c.args.stream.now in
    let counted = g.D.Demand.counted c.args.demand.now in
    let made = IsContainerOf g.X.Item.Value.is_value (C.content it) (C.empty it) (C.add it) in
    let so_far = c.loop-is_hit.invariant.found in
    let P : Bool → Type 0 = λ b. IsFound counted made so_far.0 c.loop-is_hit.whole b in
    found-whole counted made (X.value s) so_far.0 (X.behind s c.loop-is_hit.progress) c.loop-is_hit.whole so_far.1 (subst P c.loop-is_hit-test.false so_far.2)

pub returns-clause-read : goal.returns-clause-read
returns-clause-read g c =
    let at = c.loop-is_hit.invariant.read in
    (at.0, at.1, at.3)
