use Rattle.std.proofs.Common.{◌≡◌, ◌+ℤ◌, ap₂, sym, ◌∙◌, rules, w64, to_z, of_z}
use Rattle.std.specs.Int.{int_wrap}
use Rattle.sources.specs.Progressions.{progression}
use Rattle.sources.specs.ProgressionLaws.{progression-plus}
use Rattle.sources.proofs.progression.Progression.plus.Goals as goal

pub returns : goal.returns
returns c =
    let p = c.args.self in
    let next : to_z w64 (of_z w64 c.sum.result) ≡ int_wrap w64 (p.next +ℤ c.args.summand) = search rules in
    let step : to_z w64 (of_z w64 p.step) ≡ p.step = search rules in
    ap₂ (λ a s. progression a s p.left) next step ∙ sym (progression-plus c.args.summand p.next p.step p.left)
