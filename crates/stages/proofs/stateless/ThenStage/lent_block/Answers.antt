use Rattle.std.proofs.Common.{◌≡◌, ◌∙◌, List, ap, flat_map, map, subst}
use Rattle.std.specs.Prelude.{IfSome}
use Rattle.stages.specs.Passing.{flat_map-flat_map}
use Rattle.stages.proofs.stateless.ThenStage.lent_block.Goals as goal

pub returns : goal.returns
returns g c =
    let first = g.A.Stage.expand c.args.self.now.first in
    let second = g.B.Stage.expand c.args.self.now.second in
    let items = map g.A.In.Value.content c.args.items.now in
    let is : flat_map second (map g.A.Out.Value.content c.in_ok-lent_block.field-0.now) ≡ flat_map (λ x. flat_map second (first x)) items =
    ap (flat_map second) c.in_ok-lent_block.ensures.same ∙ flat_map-flat_map first second items in
    let P : List g.row.B-Out-Content.Denot → Type 0 = λ l. IfSome c.lent_block-2.result (λ block. map g.B.Out.Value.content block.now ≡ l) in
    record { same = subst P is c.lent_block-2.ensures.same }
