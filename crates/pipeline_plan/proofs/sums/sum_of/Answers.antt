use Rattle.std.proofs.Common.{rules, ◌≡◌, ◌+◌, ◌∷◌, ◌∙◌, ◌+ℤ◌, neg_ℤ, ap, ap₂, arith, fold, length, of_z, pos, suc, sym, to_z, FitsSigned, w64}
use Rattle.std.{specs.Int.int_wrap, proofs.lemmas.Int.to_z_pos}
use Rattle.sources.specs.{Progressions.progression, ProgressionLaws.length-progression}
use Rattle.stages.specs.Wrapping.{wrapped, wrapped_sum}
use Rattle.stages.specs.Products.{wrapped_product}
use Rattle.pipeline_plan.specs.Sums.{made-sum, pairs_of, steps-read, steps-sum}
use Rattle.pipeline_plan.proofs.sums.sum_of.Goals as goal

pub overflow_add-later : goal.overflow_add-later
overflow_add-later c =
    let q = c.try_advance.new.self in
    let size = length-progression q.next q.step q.left in
    record { fits = omega (arith, size, q.few, c.count-later.ensures) }

pub pairs_with-requires : goal.pairs_with-requires
pairs_with-requires c =
    let q = c.try_advance.new.self in
    let size = length-progression q.next q.step q.left in
    omega (arith, size, q.few, c.count-later.ensures)

pub returns : goal.returns
returns c =
    let p = c.args.numbers in
    let q = c.try_advance.new.self in
    let r = c.try_advance-2.new.self in
    let x = c.in-Some.first in
    let y = c.in-Some-unwrap.second in
    let d = c.wrapping_difference-step.result in
    let n = c.count-later.result in
    let later = progression q.next q.step q.left in
    let sum = c.wrapping_sum.result in
    let as_sum : to_z w64 (of_z w64 sum) ≡ sum = search rules in
    let one : progression p.next p.step p.left ≡ x ∷ later = search rules in
    let two : later ≡ y ∷ progression r.next r.step r.left = search rules in
    let step : FitsSigned w64 p.step = search rules in
    let gap : d ≡ int_wrap w64 (y +ℤ neg_ℤ x) = search rules in
    let size = length-progression q.next q.step q.left in
    let count : n ≡ length later = c.count-later.ensures in
    let next : to_z w64 (n + 1) ≡ pos (suc (length later)) = to_z_pos w64 (n + 1) (omega (arith, size, q.few, count)) ∙ ap pos (omega (arith, count)) in
    let firsts : c.wrapping_product-firsts.result ≡ wrapped_product x (pos (suc (length later))) = search (rules, next) in
    let pairs : c.pairs_with.result ≡ wrapped (pos (pairs_of (suc (length later)))) = c.pairs_with.ensures ∙ ap (λ k. wrapped (pos (pairs_of (suc k)))) count in
    let steps : c.wrapping_product.result ≡ wrapped_product d (wrapped (pos (pairs_of (suc (length later))))) = search (rules, pairs) in
    let total : sum ≡ wrapped_sum c.wrapping_product-firsts.result c.wrapping_product.result = search rules in
    rw as_sum (
    total ∙ ap₂ wrapped_sum firsts steps ∙ made-sum (suc (length later)) (pairs_of (suc (length later))) x d
    ∙ sym (steps-sum (suc (length later)) x d)
    ∙ ap (fold wrapped_sum (pos 0)) (sym (steps-read p.next p.step p.left x y d later _ step one two gap))
    )
