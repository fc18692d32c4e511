use Rattle.std.proofs.Common.{rules, ◌≡◌, ◌+◌, ◌/◌, ◌%◌, arith, of_z, pos, to_z, w64}
use Rattle.std.proofs.lemmas.Int.{to_z_pos}
use Rattle.pipeline_plan.specs.Sums.{counted-product, pairs-even, pairs-odd}
use Rattle.pipeline_plan.proofs.sums.pairs_with.Goals as goal

pub returns-then-later-eq0 : goal.returns-then-later-eq0
returns-then-later-eq0 c =
    let n = c.args.later in
    let product = c.wrapping_product.result in
    let as_product : to_z w64 (of_z w64 product) ≡ product = search rules in
    let half : to_z w64 (n / 2) ≡ pos (n / 2) = to_z_pos w64 (n / 2) (omega (arith, c.requires)) in
    let next : to_z w64 (n + 1) ≡ pos (n + 1) = to_z_pos w64 (n + 1) (omega (arith, c.requires)) in
    let even : n % 2 ≡ 0 = omega (arith, c.if-later-eq0.true) in
    rw as_product (search (rules, half, next, counted-product (n / 2) (n + 1) _ _ _ half next (pairs-even n even)))

pub returns-else-later-eq0 : goal.returns-else-later-eq0
returns-else-later-eq0 c =
    let n = c.args.later in
    let product = c.wrapping_product-else-later-eq0.result in
    let as_product : to_z w64 (of_z w64 product) ≡ product = search rules in
    let half : to_z w64 (n / 2 + 1) ≡ pos (n / 2 + 1) = to_z_pos w64 (n / 2 + 1) (omega (arith, c.requires)) in
    let all : to_z w64 n ≡ pos n = to_z_pos w64 n (omega (arith, c.requires)) in
    let odd : n % 2 ≡ 1 = omega (arith, c.if-later-eq0.false) in
    rw as_product (search (rules, half, all, counted-product (n / 2 + 1) n _ _ _ half all (pairs-odd n odd)))
