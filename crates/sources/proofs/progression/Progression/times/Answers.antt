use Rattle.std.proofs.Common.{◌≡◌, ◌*ℤ◌, ap₂, sym, ◌∙◌, rules, w64, to_z, of_z}
use Rattle.std.specs.Int.{int_wrap}
use Rattle.sources.specs.Progressions.{progression}
use Rattle.sources.specs.ProgressionLaws.{progression-times}
use Rattle.sources.proofs.progression.Progression.times.Goals as goal

pub returns : goal.returns
returns c =
    let p = c.args.self in
    let next : to_z w64 (of_z w64 c.product.result) ≡ int_wrap w64 (p.next *ℤ c.args.factor) = search rules in
    let step : to_z w64 (of_z w64 c.product-2.result) ≡ int_wrap w64 (p.step *ℤ c.args.factor) = search rules in
    ap₂ (λ a s. progression a s p.left) next step ∙ sym (progression-times c.args.factor p.next p.step p.left)
