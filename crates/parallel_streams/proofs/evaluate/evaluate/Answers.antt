use Rattle.std.proofs.Common.{refl}
use Rattle.parallel_streams.proofs.evaluate.evaluate.Goals as goal

pub returns : goal.returns
returns g c =
    let begun = c.in_ok-whole.ensures in
    let ran = c.in_ok-progress in
    let planned = begun.planned refl in
    record {
      lists = g.X.Plumbing.parts c.args.stream.now ran.progress;
      cut = ran.ensures.cut planned;
      joins = ran.ensures.whole planned;
      before = ran.entries.items;
      last = c.in_ok-acc.entry;
      are = c.in_ok-push.ensures.items;
      of_barriers = ran.ensures.entries planned begun.entries;
      of_run = c.in_ok-acc.ensures.run;
    }
