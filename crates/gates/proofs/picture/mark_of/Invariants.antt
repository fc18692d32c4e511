use Rattle.std.proofs.Common.{◌≡◌, ◌-◌, ◌&&◌}
use Rattle.gates.specs.Pictures.{each_from, was_counted, was_skipped}
use Rattle.gates.proofs.picture.mark_of.Given as goal

-- the answers so far, and those of the leaves that are left
abbrev pub invariant-loop-leaf : goal.invariant-loop-leaf
invariant-loop-leaf l =
    (l.all && each_from (was_counted l.entry) l.leaf (l.end - l.leaf) ≡ each_from (was_counted l.entry) l.begin (l.end - l.begin))
    × (l.none && each_from (was_skipped l.entry) l.leaf (l.end - l.leaf) ≡ each_from (was_skipped l.entry) l.begin (l.end - l.begin))
