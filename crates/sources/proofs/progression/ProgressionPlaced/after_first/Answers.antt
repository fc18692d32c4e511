use Rattle.std.proofs.Common.{◌≡◌, ◌<◌, ◌-◌, ◌^◌, ◌+ℤ◌, ◌*ℤ◌, pos, ap, ◌∙◌, arith, rules, w64, to_z, of_z, min}
use Rattle.std.specs.Int.{int_wrap}
use Rattle.std.specs.Prelude.{FitsSigned}
use Rattle.std.proofs.lemmas.Int.{int_wrap-add_right, to_z_pos}
use Rattle.sources.specs.Progressions.{progression, steps_on}
use Rattle.sources.proofs.ProgressionBlocks.{rest_of}
use Rattle.sources.proofs.progression.ProgressionPlaced.after_first.Goals as goal

pub returns : goal.returns
returns c =
    let p = c.args.self in
    let k = c.min-skipped.result in
    let fits : FitsSigned w64 p.next = search rules in
    let step : to_z w64 (of_z w64 p.step) ≡ p.step = search rules in
    let count : k ≡ min p.left c.args.number = search rules in
    let small : k < 2 ^ 63 = omega (arith, count, p.few) in
    let number : to_z w64 k ≡ pos k = to_z_pos w64 k small in
    let sum : to_z w64 (of_z w64 c.sum.result) ≡ int_wrap w64 (p.next +ℤ int_wrap w64 (to_z w64 k *ℤ p.step)) = search rules in
    let on : to_z w64 (of_z w64 c.sum.result) ≡ steps_on p.next p.step k =
    sum ∙ int_wrap-add_right w64 p.next (to_z w64 k *ℤ p.step) ∙ ap (λ z. int_wrap w64 (p.next +ℤ z *ℤ p.step)) number in
    ap (λ s. progression (to_z w64 (of_z w64 c.sum.result)) s (p.left - k)) step ∙ rest_of p.next _ p.step c.args.number p.left k fits count on
