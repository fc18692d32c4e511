use Rattle.std.proofs.Common.{List, ℕ, length, map, subst, sym, arith}
use Rattle.split_tree.specs.Plan.{leaves_of}
use Rattle.parallel_streams.specs.Cuts.{Ascends}
use Rattle.parallel_streams.specs.LeafCutLaws.{Ascends-ends_by, some-size}
use Rattle.parallel_streams.proofs.places.Places.cut.Goals as goal

pub returns-clause-order : goal.returns-clause-order
returns-clause-order g c =
    let sizes = map (λ s. s.left) (leaves_of c.in_ok-plan.plan) in
    let some = some-size c.args.workers c.args.target (length c.args.items.now) sizes c.in_ok-plan.ensures in
    let P : List ℕ → Type 0 = λ l. Ascends 0 (length c.args.items.now) l in
    subst P (sym c.in_ok-ends.ensures.ends) (Ascends-ends_by (length c.args.items.now) 0 sizes (omega arith) some)
