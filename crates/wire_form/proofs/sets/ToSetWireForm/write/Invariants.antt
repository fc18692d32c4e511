use Rattle.std.proofs.Common.{◌≡◌, ◌++◌}
use Rattle.wire_form.proofs.sets.ToSetWireForm.write.Given as goal

-- the items so far and those that are left are those of the set
abbrev pub invariant-loop-item : goal.invariant-loop-item
invariant-loop-item g l = (l.items.items ++ l.item-iterator ≡ l.fn.acc.keys)
