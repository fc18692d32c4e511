use Rattle.std.proofs.Common.{◌≡◌, ◌≤◌, ◌<◌, ◌-◌, map, take}
use Rattle.std.specs.Prelude.{count_by}
use Rattle.barriers.proofs.demand.Demand.front.Given as goal

abbrev pub invariant-loop-taken : goal.invariant-loop-taken
invariant-loop-taken g l =
    (l.counting ≡ count_by (g.Self.Demand.counted l.self) (map g.T.Value.content (take l.taken l.items)))
    × (l.counting ≤ l.wanted)
    × (0 < l.taken → count_by (g.Self.Demand.counted l.self) (map g.T.Value.content (take (l.taken - 1) l.items)) < l.wanted)
