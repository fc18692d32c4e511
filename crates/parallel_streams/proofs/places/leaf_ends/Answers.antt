use Rattle.std.proofs.Common.{◌≡◌, ◌+◌, ◌++◌, ◌<◌, min, ℕ, List, length, map, drop, slice_index_or, sym, ap, ◌∙◌, subst, arith}
use Rattle.std.proofs.lemmas.List.{length-map}
use Rattle.split_tree.specs.Plan.{leaves_of}
use Rattle.parallel_streams.specs.Leaves.{ends_by}
use Rattle.parallel_streams.specs.LeafLaws.{get-mapped}
use Rattle.parallel_streams.specs.LeafCutLaws.{ends-push, ends-last, length-ends_by}
use Rattle.parallel_streams.proofs.places.leaf_ends.Goals as goal

pub loop-leaf-init : goal.loop-leaf-init
loop-leaf-init c =
    let sizes = map (λ s. s.left) (leaves_of c.args.plan.now) in
    ap (λ es. es ++ ends_by c.args.len 0 sizes) c.new-ends.ensures.items

pub loop-leaf-preserved : goal.loop-leaf-preserved
loop-leaf-preserved c =
    let leaves = leaves_of c.args.plan.now in
    let sizes = map (λ s. s.left) leaves in
    let leaf = c.loop-leaf.leaf in
    let count : length sizes ≡ length leaves = length-map leaves (λ s. s.left) in
    let more : leaf + 1 < length sizes = omega (arith, c.loop-leaf-test.true, c.leaves-last.ensures.count, count) in
    let size : slice_index_or sizes leaf 0 ≡ c.estimate_size-size.result = get-mapped (λ s. s.left) leaves leaf c.leaf.result 0 c.leaf.ensures ∙ sym c.estimate_size-size.ensures in
    let next : c.min-end.result ≡ min c.args.len (c.loop-leaf.end + slice_index_or sizes leaf 0) = grind (arith, size, c.min-end.ensures, c.saturating_add.ensures, c.ranges.len.fits) in
    let P : List ℕ → Type 0 = λ l. l ++ ends_by c.args.len c.min-end.result (drop (leaf + 1) sizes) ≡ ends_by c.args.len 0 sizes in
    subst P (sym c.in_ok-push.ensures.items) (ends-push c.args.len c.loop-leaf.end c.min-end.result leaf c.loop-leaf.ends.items sizes c.loop-leaf.invariant more next)

pub returns-clause-ends : goal.returns-clause-ends
returns-clause-ends c =
    let leaves = leaves_of c.args.plan.now in
    let sizes = map (λ s. s.left) leaves in
    let count : length sizes ≡ length leaves = length-map leaves (λ s. s.left) in
    let last : c.loop-leaf.leaf + 1 ≡ length sizes = omega (arith, c.loop-leaf-test.false, c.loop-leaf.auto.leaf-end, c.leaves-last.ensures.count, c.leaves-last.ensures.some_leaf, count) in
    c.in_ok-push-2.ensures.items ∙ ends-last c.args.len c.loop-leaf.end c.loop-leaf.leaf c.loop-leaf.ends.items sizes c.loop-leaf.invariant last

pub returns-clause-count : goal.returns-clause-count
returns-clause-count c =
    let leaves = leaves_of c.args.plan.now in
    let sizes = map (λ s. s.left) leaves in
    let count : length sizes ≡ length leaves = length-map leaves (λ s. s.left) in
    let last : c.loop-leaf.leaf + 1 ≡ length sizes = omega (arith, c.loop-leaf-test.false, c.loop-leaf.auto.leaf-end, c.leaves-last.ensures.count, c.leaves-last.ensures.some_leaf, count) in
    ap length (c.in_ok-push-2.ensures.items ∙ ends-last c.args.len c.loop-leaf.end c.loop-leaf.leaf c.loop-leaf.ends.items sizes c.loop-leaf.invariant last) ∙ length-ends_by c.args.len 0 sizes ∙ count
