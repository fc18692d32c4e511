use Rattle.std.proofs.Common.{◌≡◌, neg_ℤ, ap₂, sym, ◌∙◌, rules, w64, to_z, of_z}
use Rattle.std.specs.Int.{int_wrap}
use Rattle.std.proofs.lemmas.Int.{wraps}
use Rattle.sources.specs.Progressions.{progression}
use Rattle.sources.specs.ProgressionLaws.{progression-negated}
use Rattle.sources.proofs.progression.Progression.negated.Goals as goal

pub returns : goal.returns
returns c =
    let p = c.args.self in
    let next : to_z w64 (of_z w64 c.wrapping_neg.result) ≡ int_wrap w64 (neg_ℤ p.next) = search (rules, wraps) in
    let step : to_z w64 (of_z w64 c.wrapping_neg-2.result) ≡ int_wrap w64 (neg_ℤ p.step) = search (rules, wraps) in
    ap₂ (λ a s. progression a s p.left) next step ∙ sym (progression-negated p.next p.step p.left)
