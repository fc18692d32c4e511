use Rattle.std.proofs.Common.{◌≡◌, ◌^◌, ◌-ℤ◌, pos, min, ap, ◌∙◌, sym, arith, length, w64, to_z}
use Rattle.std.proofs.Math.Facts.{to_z_pos}
use Rattle.std.proofs.lemmas.Int.{ints}
use Rattle.sources.specs.Integers.{integers, count_between, natural_part}
use Rattle.sources.specs.IntegersLaws.{length-integers}
use Rattle.split_tree.specs.Plan.{tree_of, leaves_of}
use Rattle.parallel_streams.specs.LeafCutLaws.{AreSizes-plan}
use Rattle.parallel_streams.proofs.places.plan_places.Goals as goal

pub returns-in-Ok-make : goal.returns-in-Ok-make
returns-in-Ok-make c =
    let range = c.in-Ok.range in
    let n = c.min-counted.result in
    let counted : n ≡ min c.args.len (2 ^ 62) = c.min-counted.ensures in
    let end : to_z w64 n ≡ pos n = to_z_pos w64 (omega (arith, counted)) in
    let whole : pos n -ℤ pos 0 ≡ pos n = omega (arith, ints) in
    let count : range.left ≡ count_between (pos 0) (to_z w64 n) = sym (length-integers range.next range.left) ∙ ap length c.in-Ok.ensures.ok ∙ length-integers (pos 0) (count_between (pos 0) (to_z w64 n)) in
    let all = count ∙ ap (count_between (pos 0)) end ∙ ap natural_part whole ∙ counted in
    AreSizes-plan (λ s. integers s.next s.left) (λ s. s.left) (λ s. length-integers s.next s.left) c.args.workers c.args.target c.args.len range (tree_of c.in-Ok-make.plan) (leaves_of c.in-Ok-make.plan) all c.in-Ok-make.ensures.tree
