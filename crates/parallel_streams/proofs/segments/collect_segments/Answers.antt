use Rattle.std.proofs.Common.{◌++◌, ◌∙◌, sym}
use Rattle.parallel_streams.specs.ReadingLaws.{reads-begun, reads-on}
use Rattle.parallel_streams.proofs.SegmentLaws.{read-segment}
use Rattle.parallel_streams.proofs.segments.collect_segments.Goals as goal

pub loop-extent-preserved : goal.loop-extent-preserved
loop-extent-preserved g c =
    let X = g.X.Plumbing in
    let s = c.args.stream.now in
    let so_far = c.loop-extent.invariant.taken in
    let done = so_far.0 in
    let next = c.in_ok-after.ensures.made in
    let items = next.0 in
    let behind = X.behind s c.in_ok-after.after in
    let read = c.loop-extent.invariant.read in
    let reads = c.in_ok-next.ensures.reads read.0 read.1 in
    record {
      holds = c.in_ok-after.ensures.holds;
      taken = (
        done ++ items,
        read-segment (X.value s) done (X.behind s c.loop-extent.progress) items behind so_far.1 (sym c.in_ok-next.ensures.left ∙ next.1),
        c.in_ok-combine_containers.ensures done items so_far.2 next.2,
      );
      read = (
        reads.0,
        c.in_ok-after.ensures.read read.0 reads.0 reads.1,
        λ fine. reads-on (X.decided s) read.0 reads.0 (c.is_last.ensures.undecided c.loop-extent-test.true read.0 read.1) (reads.2 fine),
      );
    }

pub returns-clause-read : goal.returns-clause-read
returns-clause-read g c = c.loop-extent.invariant.read

pub loop-extent-init : goal.loop-extent-init
loop-extent-init g c =
    let X = g.X.Plumbing in
    let begun = c.in_ok-begun.ensures.reads in
    let first = c.in_ok-progress.ensures.made in
    record {
      holds = c.in_ok-progress.ensures.holds;
      taken = (first.0, sym c.in_ok-begun.ensures.left ∙ first.1, first.2);
      read = (
        begun.0,
        c.in_ok-progress.ensures.read 0 begun.0 begun.1,
        λ fine. reads-begun (X.decided c.args.stream.now) begun.0 c.first-extent.result.most c.first-extent.ensures.undecided (begun.2 fine),
      );
    }
