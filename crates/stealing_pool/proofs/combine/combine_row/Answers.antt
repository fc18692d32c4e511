use Rattle.std.proofs.Common.{◌∙◌, ap, length}
use Rattle.split_tree.specs.SplitTree.{leaf_numbers}
use Rattle.split_tree.specs.TreeLaws.{length-numbers_from}
use Rattle.stealing_pool.proofs.Forks.{numbered_from_zero, stands_run_ok}
use Rattle.stealing_pool.proofs.combine.combine_row.Goals as goal

pub combine_part-requires-clause-numbered : goal.combine_part-requires-clause-numbered
combine_part-requires-clause-numbered g c κs lives = numbered_from_zero c.args.tree.now (g.J.LeafJob.work c.args.job.now).leaves c.requires.tree

pub returns : goal.returns
returns g c =
    let work = g.J.LeafJob.work c.args.job.now in
    stands_run_ok work c.combine_part.result c.args.row.items (length (leaf_numbers c.args.tree.now)) (ap length c.requires.tree ∙ length-numbers_from 0 work.leaves) c.requires.row c.combine_part.ensures
