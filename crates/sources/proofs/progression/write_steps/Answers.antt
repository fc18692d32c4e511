use Rattle.std.proofs.Common.{◌≡◌, ◌<◌, ◌∷◌, ◌++◌, [], ◌+ℤ◌, rules, length, ap, ap₂, sym, ◌∙◌, arith, w64, to_z, of_z, ℤ}
use Rattle.std.specs.Int.{int_wrap}
use Rattle.std.specs.Prelude.{FitsSigned}
use Rattle.std.proofs.lemmas.List.{take_more_set}
use Rattle.sources.specs.Progressions.{steps_on}
use Rattle.sources.specs.ProgressionLaws.{progression_more, step_more}
use Rattle.sources.proofs.progression.write_steps.Goals as goal

pub loop-x-preserved : goal.loop-x-preserved
loop-x-preserved c =
    let l = c.loop-x in
    let within : l.x-index < length l.room = omega (arith, c.loop-x-test.true, l.auto.room) in
    let first : ℤ = to_z w64 (of_z w64 c.args.first) in
    let step : ℤ = to_z w64 (of_z w64 c.args.step) in
    let fits : FitsSigned w64 first = search rules in
    let at : to_z w64 l.number-bits ≡ steps_on first step l.x-index = l.invariant.1 in
    let next : to_z w64 (of_z w64 c.sum-number.result) ≡ int_wrap w64 (to_z w64 l.number-bits +ℤ step) = search rules in (
      take_more_set l.room l.x-index _ within ∙ ap₂ (λ xs x. xs ++ x ∷ []) l.invariant.0 at ∙ sym (progression_more first step l.x-index fits),
      next ∙ ap (λ n. int_wrap w64 (n +ℤ step)) at ∙ step_more first step l.x-index,
    )
