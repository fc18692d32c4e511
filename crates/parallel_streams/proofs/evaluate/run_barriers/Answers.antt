use Rattle.std.proofs.Common.{◌∙◌, List, rules, subst, sym}
use Rattle.leaf_board.specs.Closing.{Outcome}
use Rattle.parallel_streams.proofs.evaluate.run_barriers.Goals as goal

pub loop-progress-preserved : goal.loop-progress-preserved
loop-progress-preserved g c =
    let so_far = c.loop-progress.invariant in
    let now = c.in_ok-after.ensures in
    let P : List Outcome → Type 0 = λ entries. g.X.Plumbing.told_so_far c.args.stream.now c.args.engine.now.run.workers c.args.engine.now.run.target c.in_ok-after.after entries in
    record {
      holds = now.holds;
      left = now.left ∙ so_far.left;
      still = now.still ∙ so_far.still;
      reads = λ from to reads. now.reads from to (so_far.reads from to reads);
      planned = λ planned. now.planned (so_far.planned planned);
      told = λ planned told. subst P (sym c.in_ok-push.ensures.items) (now.entries (so_far.planned planned) c.loop-progress.entries.items (so_far.told planned told));
    }

-- bounded: a wrong body would search to its limit
pub loop-progress-init : goal.loop-progress-init
loop-progress-init g c = search rules fits 60 depth 3

pub returns-clause-read : goal.returns-clause-read
returns-clause-read g c = λ from to reads. c.promise_whole.ensures.read from to (c.loop-progress.invariant.reads from to reads)
