use Rattle.std.specs.Prelude.{flat_map}
use Rattle.derived_collectors.specs.FlatMapping.{members_of, all-members, made-members}
use Rattle.wire_form.proofs.adapting.FlatMappingToFromWire.read.Goals as goal

pub returns-clause-known : goal.returns-clause-known
returns-clause-known g c = λ l h.
    let D = g.D.Collector in
    let it = c.args.self.now in
    let d = it.downstream in
    let members = members_of (g.M.Mapping.image it.mapping) g.M.Out.ListValue.items in
    let all = all-members members (D.empty d) (D.add d) g.T.Value.is_value g.M.Out.Item.Value.is_value (λ x value. g.met.M.Out.ListOfValues.members_are_values (g.M.Mapping.image it.mapping x) (g.met.M.Mapping.images_are_values it.mapping x value)) l h.1.0 in
    c.read.ensures.known (flat_map members l) (h.0, (all, made-members members (D.empty d) (D.add d) l (D.content d h.0) h.1.1), h.2)
