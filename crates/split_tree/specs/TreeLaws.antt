-- What holds of the numbers of a tree's leaves, for those who walk it.
use Rattle.std.specs.Prelude.{◌≡◌, ℕ, zero, suc, ◌+◌, ◌≤◌, List, [], ◌∷◌, ◌++◌, length, refl}
use Rattle.std.proofs.Common.{sym, ap, ◌∙◌, arith}
use Rattle.std.proofs.lemmas.List.{length-append}
use Rattle.split_tree.specs.declared.tree.Tree.{Tree, Leaf, Node'}
use Rattle.split_tree.specs.SplitTree.{leaf_numbers, numbers_from}
use Rattle.split_tree.specs.SplitTreeLaws.{numbers_from-append}

pub length-numbers_from : (first n : ℕ) → length (numbers_from first n) ≡ n
length-numbers_from first zero = refl
length-numbers_from first (suc n) = ap suc (length-numbers_from (first + 1) n)

-- each tree has a leaf
pub some_leaf : (tree : Tree) → 1 ≤ length (leaf_numbers tree)
some_leaf (Leaf i) = omega arith
some_leaf (Node' p left q right) =
    let at_left = some_leaf left in
    let both = length-append (leaf_numbers left) (leaf_numbers right) in
    omega arith

-- the fronts of two lists of one length, and what follows them, are equal where the lists are
front : {X : Type 0} (xs ys zs ws : List X) → length xs ≡ length zs → xs ++ ys ≡ zs ++ ws → (xs ≡ zs) × (ys ≡ ws)
front [] ys [] ws long same = (refl, same)
front [] ys (z ∷ zs) ws long same = absurd (omega arith)
front (x ∷ xs) ys [] ws long same = absurd (omega arith)
front (x ∷ xs) ys (z ∷ zs) ws long same =
    let tails : xs ++ ys ≡ zs ++ ws = cc in
    let heads : x ≡ z = cc in
    let rest = front xs ys zs ws (omega arith) tails in
    (let e = rest.0 in cc, rest.1)

-- The children's leaves are numbered on from the node's first: the left child's come first.
pub leaf_numbers-children : (left right : Tree) (first n : ℕ) → leaf_numbers left ++ leaf_numbers right ≡ numbers_from first n
    → (leaf_numbers left ≡ numbers_from first (length (leaf_numbers left)))
    × (leaf_numbers right ≡ numbers_from (first + length (leaf_numbers left)) (length (leaf_numbers right)))
    × (length (leaf_numbers left) + length (leaf_numbers right) ≡ n)
leaf_numbers-children left right first n h =
    let l = length (leaf_numbers left) in
    let r = length (leaf_numbers right) in
    let count : l + r ≡ n = sym (length-append (leaf_numbers left) (leaf_numbers right)) ∙ ap length h ∙ length-numbers_from first n in
    let cut = sym (numbers_from-append first l r ∙ ap (numbers_from first) count) in
    let both = front (leaf_numbers left) (leaf_numbers right) (numbers_from first l) (numbers_from (first + l) r) (sym (length-numbers_from first l)) (h ∙ cut) in
    (both.0, both.1, count)
