use Rattle.std.proofs.Common.{◌≡◌, map, take, fold}
use Rattle.derived_collectors.specs.ExactSums.{add_exact}
use Rattle.derived_collectors.proofs.summing_exact.sum_all.Given as goal

abbrev pub invariant-loop-item : goal.invariant-loop-item
invariant-loop-item g l =
    l.sum ≡ fold (add_exact (λ x. g.M.Out.Whole.number (g.M.Mapping.image l.number x))) l.initial.sum (map g.T.Value.content (take l.item-index l.items))
