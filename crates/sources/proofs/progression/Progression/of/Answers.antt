use Rattle.std.proofs.Common.{◌≡◌, ap, sym, ◌∙◌, pos, rules, w64, to_z, of_z}
use Rattle.std.specs.Prelude.{FitsSigned}
use Rattle.sources.specs.Progressions.{progression}
use Rattle.sources.specs.ProgressionLaws.{progression-integers}
use Rattle.sources.proofs.progression.Progression.of.Goals as goal

pub returns : goal.returns
returns c =
    let r = c.args.range in
    let fits : FitsSigned w64 r.next = search rules in
    let next : to_z w64 (of_z w64 r.next) ≡ r.next = search rules in
    ap (λ a. progression a (pos 1) r.left) next ∙ sym (progression-integers r.next r.left fits r.within_type)
