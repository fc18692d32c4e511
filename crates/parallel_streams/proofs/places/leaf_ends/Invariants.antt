use Rattle.std.proofs.Common.{◌≡◌, ◌++◌, drop, map}
use Rattle.split_tree.specs.Plan.{leaves_of}
use Rattle.parallel_streams.specs.Leaves.{ends_by}
use Rattle.parallel_streams.proofs.places.leaf_ends.Given as goal

abbrev pub invariant-loop-leaf : goal.invariant-loop-leaf
invariant-loop-leaf l =
    let sizes = map (λ s. s.left) (leaves_of l.plan) in
    l.ends.items ++ ends_by l.len l.end (drop l.leaf sizes) ≡ ends_by l.len 0 sizes
