use Rattle.std.proofs.Common.{◌≡◌, ℕ, []}
use Rattle.parallel_streams.proofs.evaluate.run_barriers.Given as goal

abbrev pub invariant-loop-progress : goal.invariant-loop-progress
invariant-loop-progress g l = record {
  holds : g.X.Plumbing.holds l.stream l.progress;
  left : g.X.Plumbing.left l.stream l.progress ≡ g.X.Plumbing.left l.stream l.fn.progress;
  still : g.X.Plumbing.still l.stream l.progress ≡ g.X.Plumbing.still l.stream l.fn.progress;
  reads : (from to : ℕ) → g.X.Plumbing.reads l.stream l.fn.progress from to → g.X.Plumbing.reads l.stream l.progress from to;
  planned : g.X.Plumbing.planned l.stream l.engine.run.workers l.engine.run.target l.fn.progress → g.X.Plumbing.planned l.stream l.engine.run.workers l.engine.run.target l.progress;
  told : g.X.Plumbing.planned l.stream l.engine.run.workers l.engine.run.target l.fn.progress → g.X.Plumbing.told_so_far l.stream l.engine.run.workers l.engine.run.target l.fn.progress []
      → g.X.Plumbing.told_so_far l.stream l.engine.run.workers l.engine.run.target l.progress l.entries.items;
}

abbrev pub decreases-loop-progress : goal.decreases-loop-progress
decreases-loop-progress g l = g.X.Plumbing.waiting l.stream l.progress
