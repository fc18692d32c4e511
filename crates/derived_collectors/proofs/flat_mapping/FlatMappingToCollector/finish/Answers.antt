use Rattle.std.proofs.Common.{List, flat_map}
use Rattle.derived_collectors.specs.FlatMapping.{all-members, made-members}
use Rattle.derived_collectors.proofs.flat_mapping.FlatMappingToCollector.finish.Goals as goal

pub returns : goal.returns
returns g c = λ l values made.
    let d = c.args.self.now.downstream in
    let members : g.row.T-Content.Denot → List _ = λ x. g.M.Out.ListValue.items (g.M.Mapping.image c.args.self.now.mapping x) in
    c.finish.ensures (flat_map members l)
    (all-members members (g.D.Collector.empty d) (g.D.Collector.add d) g.T.Value.is_value g.M.Out.Item.Value.is_value
    (λ x value. g.met.M.Out.ListOfValues.members_are_values _ (g.met.M.Mapping.images_are_values c.args.self.now.mapping x value)) l values)
    (made-members members (g.D.Collector.empty d) (g.D.Collector.add d) l _ made)
