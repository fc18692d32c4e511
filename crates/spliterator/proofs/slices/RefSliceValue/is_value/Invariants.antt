use Rattle.std.proofs.Common.{map, All, take}
use Rattle.spliterator.proofs.slices.RefSliceValue.is_value.Given as goal

abbrev pub invariant-loop-item : goal.invariant-loop-item
invariant-loop-item g l = All g.T.Value.is_value (map g.T.Value.content (take l.item-index l.self.now))
