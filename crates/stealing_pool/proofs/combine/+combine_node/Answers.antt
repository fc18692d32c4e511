use Rattle.std.proofs.Common.{◌≡◌, ◌<◌, ◌+◌, ◌-◌, ◌∙◌, ℕ, List, ap, sym, subst, length, length-append, arith}
use Rattle.std.proofs.lemmas.List.{length-drop}
use Rattle.std.proofs.lemmas.Bool.Decides.{nat_tests}
use Rattle.split_tree.specs.SplitTree.{leaf_numbers}
use Rattle.stealing_pool.specs.Gathers.{StandsForPart}
use Rattle.split_tree.specs.TreeLaws.{some_leaf}
use Rattle.stealing_pool.proofs.Rows.{stands_both}
use Rattle.stealing_pool.proofs.combine.+combine_node.Goals as goal

pub returns-clause-kept : goal.returns-clause-kept
returns-clause-kept g t c =
    let work = g.J.LeafJob.work c.args.job.now in
    let row = c.args.row.now.rest.items in
    let left = c.deref.result.now in
    let right = c.deref-2.result.now in
    let m = length (leaf_numbers left) in
    let n = length (leaf_numbers right) in
    let size : length (leaf_numbers c.args.tree.now) ≡ m + n =
    (let l : length (leaf_numbers left) ≡ length (leaf_numbers c.in-Node.left.value) = ap (λ tree. length (leaf_numbers tree)) c.deref.ensures in
    let r : length (leaf_numbers right) ≡ length (leaf_numbers c.in-Node.right.value) = ap (λ tree. length (leaf_numbers tree)) c.deref-2.ensures in
    let whole = ap (λ tree. length (leaf_numbers tree)) c.in-Node.is ∙ length-append (leaf_numbers c.in-Node.left.value) (leaf_numbers c.in-Node.right.value) in
    omega arith) in
    let rest : length c.combine_node.new.row.rest.items ≡ length row - m = ap length c.in_ok-kept.ensures.rest ∙ length-drop m row in
    let counted = c.len.ensures.value in
    let some : 0 < length c.combine_node.new.row.rest.items = let f = c.if-len-eq0.false in grind (arith, nat_tests) in
    let more : m < length row = omega arith in
    let P : ℕ → Type 0 = λ k. StandsForPart work k row c.combine.new.left in
    let Q : List _ → Type 0 = λ l. StandsForPart work n l c.in_ok-following.following in
    subst P (sym size) (stands_both work c.in_ok-kept.kept c.in_ok-following.following c.combine.new.left row m n (some_leaf left) more c.in_ok-kept.ensures.kept (subst Q c.in_ok-kept.ensures.rest c.in_ok-following.ensures.kept) c.in_ok-combine.ensures)
