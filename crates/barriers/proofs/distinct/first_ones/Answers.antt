use Rattle.std.proofs.Common.{◌≡◌, [], map, fold, ap, ◌∙◌, rules}
use Rattle.indexmap.specs.IndexSet.{insert_key}
use Rattle.indexmap.proofs.CallerLemmas.{Drains-YieldsInOrder}
use Rattle.barriers.proofs.Kept.{kept-distinct}
use Rattle.barriers.proofs.distinct.first_ones.Goals as goal

pub returns : goal.returns
returns g c =
    let eq = g.T.PartialEq.eq in
    let given = c.args.items.items in
    let ran = c.in_ok-extend.ensures.ran in
    let all : c.extend.new.self.keys ≡ fold (insert_key eq) c.args.empty.keys given =
    ran.3.0 ∙ ap (fold (insert_key eq) c.args.empty.keys) (Drains-YieldsInOrder _ _ ran.0 ran.1 ran.2.3 ran.4 ∙ ran.2.0) in
    let items : c.in_ok-collect.field-0.items ≡ c.extend.new.self.keys = search rules in
    let kept : c.in_ok-collect.field-0.items ≡ fold (insert_key eq) [] given = items ∙ all ∙ ap (λ keys. fold (insert_key eq) keys given) c.requires in
    ap (map g.T.Value.content) kept ∙ kept-distinct g.T.Value.same g.met.T.Value.same_decides g.T.Value.content eq g.met.T.EqualValue.eq_is_same given
