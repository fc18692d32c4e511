use Rattle.std.proofs.Common.{◌≡◌, map, take, fold}
use Rattle.collectors.specs.Sums.{add_number}
use Rattle.collectors.proofs.counting.SummingLongCollector.accumulate_all.Given as goal

abbrev pub invariant-loop-item : goal.invariant-loop-item
invariant-loop-item g l = l.sum ≡ fold (add_number (g.M.Mapping.image l.self.number)) l.fn.acc (map g.T.Value.content (take l.item-index l.items))
