use Rattle.std.proofs.Common.{[], take}
use Rattle.stages.specs.Appends.{Appends}
use Rattle.stealing_pool.specs.Spans.{joined}
use Rattle.parallel_streams.proofs.handover.list_leaves.Given as goal

abbrev pub invariant-loop-leaf : goal.invariant-loop-leaf
invariant-loop-leaf g l = Appends g.X.Item.Value.content (joined (take l.leaf (g.X.Plumbing.parts l.stream l.progress))) [] l.list.items
