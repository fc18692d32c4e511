use Rattle.std.proofs.Common.{◌≡◌, ap₂, ◌∙◌, rules, w64, to_z, of_z, min}
use Rattle.sources.specs.Progressions.{progression}
use Rattle.sources.proofs.ProgressionBlocks.{front_of}
use Rattle.sources.proofs.progression.ProgressionPlaced.first.Goals as goal

pub returns : goal.returns
returns c =
    let p = c.args.self in
    let next : to_z w64 (of_z w64 p.next) ≡ p.next = search rules in
    let step : to_z w64 (of_z w64 p.step) ≡ p.step = search rules in
    let count : c.min.result ≡ min p.left c.args.most = search rules in
    ap₂ (λ a s. progression a s c.min.result) next step ∙ front_of p.next p.step c.args.most p.left c.min.result count
