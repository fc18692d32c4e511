use Rattle.std.proofs.Common.{◌≡◌, ◌∙◌, ℕ, Option, ap, sym, subst, length, arith, ◌^◌}
use Rattle.barriers.specs.Needs.{IsBelow}
use Rattle.split_tree.specs.SplitTree.{leaf_numbers}
use Rattle.split_tree.specs.TreeLaws.{some_leaf, length-numbers_from}
use Rattle.leaf_board.proofs.Handing.{new_fresh, new_seats}
use Rattle.stealing_pool.proofs.job_run.run_case.Goals as goal

pub new-requires-clause-limits : goal.new-requires-clause-limits
new-requires-clause-limits g c =
    let work = g.J.LeafJob.work c.args.job.now in
    let size : length (leaf_numbers c.args.tree.now) ≡ work.leaves = ap length c.requires.tree ∙ length-numbers_from 0 work.leaves in
    let some = some_leaf c.args.tree.now in
    let all = c.leaves.ensures in
    let few = c.requires.few in
    let P : Option ℕ → Type 0 = λ need. IsBelow need (2 ^ 63) in
    (omega arith, omega arith, c.requires.seats.0, c.requires.seats.1, subst P (sym c.need.ensures.is) c.need.ensures.fits)

pub run_on-requires-clause-all : goal.run_on-requires-clause-all
run_on-requires-clause-all g c κs lives = new_seats g.K.Case.case c.in_ok-board.board c.in_ok-board.dealt.items c.in_ok-board.ensures

pub run_on-requires-clause-fresh : goal.run_on-requires-clause-fresh
run_on-requires-clause-fresh g c κs lives = new_fresh g.K.Case.case c.in_ok-board.board c.in_ok-board.dealt.items c.in_ok-board.ensures
