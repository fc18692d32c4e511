use Rattle.std.proofs.Common.{◌≡◌, ◌≤◌, take, drop}
use Rattle.std.specs.Prelude.{filter}
use Rattle.stream_functions.proofs.blocks.keep_front.Given as goal

abbrev pub invariant-loop-i : goal.invariant-loop-i
invariant-loop-i g l =
    (l.kept ≤ l.i)
    × (take l.kept l.items ≡ filter (g.P.Test.holds l.test) (take l.i l.fn.items))
    × (drop l.i l.items ≡ drop l.i l.fn.items)
