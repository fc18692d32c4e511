use Rattle.std.proofs.Common.{◌++◌, map, sym, ap, ◌∙◌}
use Rattle.std.proofs.lemmas.List.{map-append}
use Rattle.spliterator.specs.Clones.{clones-tested, clones-contents}
use Rattle.collectors.specs.NestedLaws.{push_all}
use Rattle.collectors.proofs.to_list.ToListCollector.accumulate_all.Goals as goal

pub returns : goal.returns
returns g c =
    let content = g.T.Value.content in
    let before = c.args.acc.now in
    let items = c.args.items.now in
    let alike = clones-tested g.T.Value.same g.met.T.Value.same_decides g.T.Clone.is_clone content c.args.self.now.clones_alike in
    let clones = c.in_ok-extend_from_slice.ensures in
    ap (map content) clones.1 ∙ map-append content before clones.0
    ∙ ap (λ l. map content before ++ l) (clones-contents g.T.Clone.is_clone content alike items clones.0 clones.2)
    ∙ sym (push_all (map content before) (map content items))
