use Rattle.std.proofs.Common.{map, ◌≡◌, ◌+◌, drop}
use Rattle.std.specs.List.{prefix_len}
use Rattle.barriers.proofs.whiles.length_of_front.Given as goal

abbrev pub invariant-loop-place : goal.invariant-loop-place
invariant-loop-place g l =
    l.place + prefix_len (g.P.Test.holds l.test) (drop l.place (map g.T.Value.content l.items)) ≡ prefix_len (g.P.Test.holds l.test) (map g.T.Value.content l.items)
