use Rattle.std.proofs.Common.{◌≡◌, ◌<◌, ◌≤◌, ◌-◌, ◌∙◌, ℕ, List, Some, ap, sym, subst, length, take, drop, arith, rules}
use Rattle.std.specs.Prelude.{slice_get}
use Rattle.std.proofs.lemmas.List.{length-drop, length-take-le}
use Rattle.std.proofs.lemmas.Bool.Decides.{nat_tests}
use Rattle.split_tree.specs.declared.tree.Tree.{Tree}
use Rattle.split_tree.specs.SplitTree.{leaf_numbers}
use Rattle.split_tree.specs.TreeLaws.{some_leaf}
use Rattle.stealing_pool.specs.Gathers.{IsNumbered, StandsForPart}
use Rattle.stealing_pool.proofs.Rows.{stands_both}
use Rattle.stealing_pool.proofs.Forks.{numbered_left, numbered_right, size_both, first_right, stands_take, stands_left_ok}
use Rattle.stealing_pool.proofs.combine.+forks.Goals as goal

pub combine_part-overflow_sub-middle : goal.combine_part-overflow_sub-middle
combine_part-overflow_sub-middle g t c =
    let left = c.in-Node.left.value in
    let right = c.in-Node.right.value in
    let First : ℕ → Tree → Type 0 = λ a tree. slice_get (leaf_numbers tree) 0 ≡ Some a in
    let b = first_right c.args.tree.now left right (ap leaf_numbers c.in-Node.is) c.requires.numbered c.first_leaf-2.result c.first_leaf.result (subst (First c.first_leaf-2.result) c.deref-2.ensures c.first_leaf-2.ensures) (subst (First c.first_leaf.result) c.deref.ensures c.first_leaf.ensures) in
    omega arith

pub combine_part-combine_part-requires-clause-numbered : goal.combine_part-combine_part-requires-clause-numbered
combine_part-combine_part-requires-clause-numbered g t c = λ κs lives.
    subst IsNumbered (sym c.deref-then-len-middle.ensures) (numbered_left c.args.tree.now c.in-Node.left.value c.in-Node.right.value (ap leaf_numbers c.in-Node.is) c.requires.numbered)

pub combine_part-returns-then-len-middle : goal.combine_part-returns-then-len-middle
combine_part-returns-then-len-middle g t c =
    let left = c.in-Node.left.value in
    let right = c.in-Node.right.value in
    let split = ap leaf_numbers c.in-Node.is in
    let row = c.args.row.items in
    let First : ℕ → Tree → Type 0 = λ a tree. slice_get (leaf_numbers tree) 0 ≡ Some a in
    let b = first_right c.args.tree.now left right split c.requires.numbered c.first_leaf-2.result c.first_leaf.result (subst (First c.first_leaf-2.result) c.deref-2.ensures c.first_leaf-2.ensures) (subst (First c.first_leaf.result) c.deref.ensures c.first_leaf.ensures) in
    let same : length (leaf_numbers c.deref-then-len-middle.result.now) ≡ length (leaf_numbers left) = ap (λ tree. length (leaf_numbers tree)) c.deref-then-len-middle.ensures in
    let size = size_both c.args.tree.now left right split c.requires.numbered in
    let test = c.if-len-middle.true in
    let long = c.len.ensures in
    let short : length row ≤ length (leaf_numbers left) = grind (arith, nat_tests) in
    stands_left_ok (g.J.LeafJob.work c.args.job.now) c.combine_part.result row (length (leaf_numbers c.args.tree.now)) (length (leaf_numbers c.deref-then-len-middle.result.now)) (length (leaf_numbers right)) (omega arith) (omega arith) c.combine_part.ensures

pub combine_part-combine_both-requires-clause-left : goal.combine_part-combine_both-requires-clause-left
combine_part-combine_both-requires-clause-left g t c = λ κs lives.
    let left = c.in-Node.left.value in
    let right = c.in-Node.right.value in
    let split = ap leaf_numbers c.in-Node.is in
    let row = c.args.row.items in
    let First : ℕ → Tree → Type 0 = λ a tree. slice_get (leaf_numbers tree) 0 ≡ Some a in
    let b = first_right c.args.tree.now left right split c.requires.numbered c.first_leaf-2.result c.first_leaf.result (subst (First c.first_leaf-2.result) c.deref-2.ensures c.first_leaf-2.ensures) (subst (First c.first_leaf.result) c.deref.ensures c.first_leaf.ensures) in
    let some = some_leaf left in
    let test = c.if-len-middle.false in
    let long = c.len.ensures in
    let within : c.first_leaf.result - c.first_leaf-2.result < length row = grind (arith, nat_tests) in
    let taken = ap length c.in_ok-following.ensures.items ∙ length-take-le (c.first_leaf.result - c.first_leaf-2.result) row (omega arith) in
    (omega arith, subst IsNumbered (sym c.deref-3.ensures) (numbered_left c.args.tree.now left right split c.requires.numbered))

pub combine_part-combine_both-requires-clause-right : goal.combine_part-combine_both-requires-clause-right
combine_part-combine_both-requires-clause-right g t c = λ κs lives.
    let left = c.in-Node.left.value in
    let right = c.in-Node.right.value in
    let split = ap leaf_numbers c.in-Node.is in
    let row = c.args.row.items in
    let test = c.if-len-middle.false in
    let long = c.len.ensures in
    let within : c.first_leaf.result - c.first_leaf-2.result < length row = grind (arith, nat_tests) in
    let left_out = ap length c.in_ok-following.ensures.tail ∙ length-drop (c.first_leaf.result - c.first_leaf-2.result) row in
    (omega arith, subst IsNumbered (sym c.deref-4.ensures) (numbered_right c.args.tree.now left right split c.requires.numbered))

pub combine_part-returns : goal.combine_part-returns
combine_part-returns g t c =
    let work = g.J.LeafJob.work c.args.job.now in
    let left = c.in-Node.left.value in
    let right = c.in-Node.right.value in
    let split = ap leaf_numbers c.in-Node.is in
    let row = c.args.row.items in
    let First : ℕ → Tree → Type 0 = λ a tree. slice_get (leaf_numbers tree) 0 ≡ Some a in
    let b = first_right c.args.tree.now left right split c.requires.numbered c.first_leaf-2.result c.first_leaf.result (subst (First c.first_leaf-2.result) c.deref-2.ensures c.first_leaf-2.ensures) (subst (First c.first_leaf.result) c.deref.ensures c.first_leaf.ensures) in
    let m = length (leaf_numbers left) in
    let n = length (leaf_numbers right) in
    let middle : c.first_leaf.result - c.first_leaf-2.result ≡ m = omega arith in
    let test = c.if-len-middle.false in
    let long = c.len.ensures in
    let before : c.first_leaf.result - c.first_leaf-2.result < length row = grind (arith, nat_tests) in
    let within : m < length row = omega arith in
    let size = size_both c.args.tree.now left right split c.requires.numbered in
    let L : Tree → Type 0 = λ tree. StandsForPart work (length (leaf_numbers tree)) c.split_off.new.self.items c.in_ok-kept.kept in
    let R : Tree → Type 0 = λ tree. StandsForPart work (length (leaf_numbers tree)) c.in_ok-following.following.items c.in_ok-kept.following in
    let D : List _ → Type 0 = λ l. StandsForPart work n l c.in_ok-kept.following in
    let P : ℕ → Type 0 = λ k. StandsForPart work k row c.combine.new.left in
    let start = c.in_ok-following.ensures.items ∙ ap (λ k. take k row) middle in
    let tail = c.in_ok-following.ensures.tail ∙ ap (λ k. drop k row) middle in
    let on_left = stands_take work c.in_ok-kept.kept row c.split_off.new.self.items m (omega arith) start (subst L c.deref-3.ensures c.in_ok-kept.ensures.left) in
    let on_right = subst D tail (subst R c.deref-4.ensures c.in_ok-kept.ensures.right) in
    subst P (sym size) (stands_both work c.in_ok-kept.kept c.in_ok-kept.following c.combine.new.left row m n (some_leaf left) within on_left on_right c.in_ok-combine.ensures)

-- bounded: a wrong body would search to its limit
pub combine_both-returns-clause-left : goal.combine_both-returns-clause-left
combine_both-returns-clause-left g t c = search rules fits 60 depth 3

pub combine_both-returns-clause-right : goal.combine_both-returns-clause-right
combine_both-returns-clause-right g t c = search rules fits 60 depth 3
