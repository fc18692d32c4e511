use Rattle.std.proofs.Common.{◌≡◌, ◌++◌, map, take, drop}
use Rattle.stream_functions.proofs.blocks.map_slice.Given as goal

abbrev pub invariant-loop-x : goal.invariant-loop-x
invariant-loop-x g l = l.items ≡ map (g.M.Mapping.image l.mapping) (take l.x-index l.fn.items) ++ drop l.x-index l.fn.items
