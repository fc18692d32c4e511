use Rattle.std.proofs.Common.{rules, ◌≡◌, ◌∙◌, ap, length, arith}
use Rattle.split_tree.specs.SplitTree.{leaf_numbers}
use Rattle.split_tree.specs.TreeLaws.{some_leaf, length-numbers_from}
use Rattle.stealing_pool.proofs.job_run.run_job.Goals as goal

pub seat_count-seats-requires : goal.seat_count-seats-requires
seat_count-seats-requires g c =
    let work = g.J.LeafJob.work c.args.job.now in
    let size : length (leaf_numbers c.args.tree.now) ≡ work.leaves = ap length c.requires.tree ∙ length-numbers_from 0 work.leaves in
    let some = some_leaf c.args.tree.now in
    let all = c.leaves.ensures in
    (c.requires.workers.0, omega arith)

-- bounded: a wrong body would search to its limit
pub run_case-requires-clause-seats : goal.run_case-requires-clause-seats
run_case-requires-clause-seats g c κs within = search rules fits 60 depth 3

pub run_case-requires-clause-lesser : goal.run_case-requires-clause-lesser
run_case-requires-clause-lesser g c κs within = search rules fits 60 depth 3
